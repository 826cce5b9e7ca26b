-- Each turn adds the next file, if the rename is of a new text.
use Rattle.std.proofs.Common.{◌≡◌, ◌++◌, ◌∷◌, [], true, false, map, string_bytes, take, subst, sym, rules}
use Rattle.std.proofs.lemmas.Map.Text.{btree_map_updates_str}
use Rattle.relmove_work.specs.Pages.{HasFiles}
use Rattle.relmove_work.specs.StagingPaths.{is_text_file}
use Rattle.relmove_work.specs.Works.{rename_text}
use Rattle.relmove_work.proofs.MakingLemmas.{HasFiles-text, HasFiles-thing, IsInserted, map-next}
use Rattle.relmove_work.proofs.works.files_of.Goals.{then-is_of_text+in_ok-insert, else-is_of_text}
use Rattle.relmove_work.proofs.works.files_of.Goals as goal

pub loop-rename-preserved : goal.loop-rename-preserved
loop-rename-preserved c =
    let renames = c.args.staged.now in
    let k = c.loop-rename.rename-index in
    let rename = c.rename-item.result in
    let before = map rename_text (take k renames) in
    let files = c.loop-rename.files in
    subst (λ rs. HasFiles rs c.if-is_of_text.files) (sym (map-next rename_text renames k rename c.loop-rename-test.true c.rename-item.is))
    (elim c.if-is_of_text.branch [
      | then-is_of_text+in_ok-insert w ↦
          subst (HasFiles (before ++ rename_text rename ∷ [])) (sym w.files-is)
          (HasFiles-text before files w.insert.new.self (string_bytes rename.from) (string_bytes rename.to)
          w.as_str-then-is_of_text.result c.loop-rename.invariant
          (subst (λ key. IsInserted files w.insert.new.self key w.as_str-then-is_of_text.result) w.as_str.ensures.value
          (btree_map_updates_str w.as_str.result.now files w.insert.new.self _ w.in_ok-insert.ensures.updates))
          w.as_str-then-is_of_text.ensures.value
          (let e : is_text_file (string_bytes rename.from) ≡ true = search rules in e))
      | else-is_of_text w ↦
          subst (HasFiles (before ++ rename_text rename ∷ [])) (sym w.files-is)
          (HasFiles-thing before files (string_bytes rename.from) (string_bytes rename.to) c.loop-rename.invariant
          (let e : is_text_file (string_bytes rename.from) ≡ false = search rules in e))
    ])
