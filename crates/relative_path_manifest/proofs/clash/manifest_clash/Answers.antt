-- The next text clashes with the one that has its number in the index, or the index gets the next text.
use Rattle.std.proofs.Common.{◌≡◌, map, unwrap_or, string_bytes, rules, ap, ◌∙◌, arith}
use Rattle.std.proofs.lemmas.List.{length-map}
use Rattle.std.proofs.lemmas.Map.Text.{text_keys}
use Rattle.std.specs.BTreeMap.{get_by_text}
use Rattle.std.specs.Str.{str_to_ascii_lowercase}
use Rattle.relative_path_manifest.specs.Clash.{text_at}
use Rattle.relative_path_manifest.specs.Manifest.{file_text}
use Rattle.relative_path_manifest.proofs.ClashLemmas.{text_at-file, Indexes-next, IsFirstClash-next}
use Rattle.relative_path_manifest.proofs.clash.manifest_clash.Goals as goal
use Rattle.relative_path_manifest.proofs.clash.manifest_clash.Goals.{In_ok-index}

-- the next text in lower case
lower : (c : In_ok-index) → str_to_ascii_lowercase (text_at (map file_text c.args.files.now) c.loop-k.k)
    ≡ string_bytes c.in_ok-text.text
lower c =
    let same : str_to_ascii_lowercase (file_text c.index-files-k.result) ≡ string_bytes c.in_ok-text.text = search rules in
    ap str_to_ascii_lowercase (text_at-file c.args.files.now _ c.loop-k.k c.loop-k-test.true)
    ∙ (rw c.index-files-k.is at same)

pub returns-then-first-k : goal.returns-then-first-k
returns-then-first-k c = record {
  clash = IsFirstClash-next (map file_text c.args.files.now) c.loop-k.k (get_by_text c.loop-k.index)
      (string_bytes c.in_ok-text.text) c.loop-k.invariant (lower (goal.at.returns-then-first-k c).In_ok-index)
      c.or_insert-first.result.now (grind (arith, text_keys)) c.if-first-k.true
      (rw (length-map c.args.files.now file_text) c.loop-k-test.true);
}

pub loop-k-preserved : goal.loop-k-preserved
loop-k-preserved c =
    let value : c.or_insert-first.result.now
    ≡ unwrap_or (get_by_text c.loop-k.index (string_bytes c.in_ok-text.text)) c.loop-k.k = grind (arith, text_keys) in
    Indexes-next (map file_text c.args.files.now) c.loop-k.k (get_by_text c.loop-k.index)
    (string_bytes c.in_ok-text.text) c.loop-k.invariant (lower (goal.at.loop-k-preserved c).In_ok-index) _
    (λ less. let past = c.if-first-k.false in omega (arith, past, value, less)) (λ other. grind (arith, text_keys))
