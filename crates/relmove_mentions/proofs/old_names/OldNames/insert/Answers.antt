-- The map's entry for the normal text gets the path if it is vacant, and the set has what the last name of the text ends in.
use Rattle.std.proofs.Common.{string_bytes, ap, arith, sym, ◌∙◌}
use Rattle.std.proofs.lemmas.Map.Text.{text_keys}
use Rattle.relative_path.specs.Editing.{kept}
use Rattle.relative_path.specs.Steps.{components}
use Rattle.relative_path.specs.Naming.{file_name_of}
use Rattle.relmove_mentions.specs.Endings.{ending_of}
use Rattle.relmove_mentions.specs.NameHashes.{last_hash, last_three_hash, last_two_hash}
use Rattle.relative_path.specs.RelativePath.{path_components}
use Rattle.relmove_mentions.proofs.OldNamesLemmas.{Lists-insert}
use Rattle.relmove_mentions.proofs.old_names.OldNames.insert.Goals as goal

pub returns-clause-lists : goal.returns-clause-lists
returns-clause-lists c = λ names lists.
    Lists-insert names c.args.old (path_components c.args.name) c.args.self.now _ (string_bytes c.into_string-text.result)
    (rw c.into_string-text.ensures.text c.in_ok-normal.ensures.normal_form) (λ other. grind (arith, text_keys))
    (λ n. (
      (λ is.
          let text = sym c.into_string-text.ensures.text in
          record {
            ending = c.insert_ending.ensures.has n (ap file_name_of (c.as_relative_path.ensures ∙ text) ∙ is);
            with_others =
                c.insert_ending_with_others.ensures.has n (ap file_name_of (c.as_relative_path-2.ensures ∙ text) ∙ is);
          }),
      (λ other had. record {
        ending = c.insert_ending.ensures.keeps (ending_of n).hash had.ending;
        with_others = λ some. c.insert_ending_with_others.ensures.keeps (ending_of n).hash (had.with_others some);
      }),
    ))
    (λ hash.
    let text = sym c.into_string-text.ensures.text in
    record {
      above = λ is.
          c.insert_hash-3.ensures.keeps hash
          (c.insert_hash-2.ensures.keeps hash
          (c.insert_hash.ensures.has hash
          (c.last_hash.ensures ∙ ap last_hash c.directory.ensures.components
          ∙ ap (λ t. last_hash (kept (components t))) (c.as_relative_path-3.ensures ∙ text) ∙ is)));
      two = λ is.
          c.insert_hash-3.ensures.keeps hash
          (c.insert_hash-2.ensures.has hash
          (c.last_two_hash.ensures ∙ ap (λ t. last_two_hash (components t)) (c.as_relative_path-4.ensures ∙ text) ∙ is));
      three = λ is.
          c.insert_hash-3.ensures.has hash
          (c.last_three_hash.ensures ∙ ap (λ t. last_three_hash (components t)) (c.as_relative_path-5.ensures ∙ text) ∙ is);
      keeps = λ had.
          c.insert_hash-3.ensures.keeps hash (c.insert_hash-2.ensures.keeps hash (c.insert_hash.ensures.keeps hash had));
    }) lists
