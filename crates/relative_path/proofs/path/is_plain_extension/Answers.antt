-- A text that isn't empty is plain if each of its bytes is.
use Rattle.std.proofs.Common.{◌≡◌, ◌==◌, ℕ, Bool, false, true≢false, List, [], ◌∷◌, length, rules, tests}
use Rattle.std.specs.List.{list_all}
use Rattle.std.proofs.lemmas.Iterator.{YieldsList-from_slice}
use Rattle.std.proofs.lemmas.Iterator.Search.{all_from_yields_List}
use Rattle.relative_path.specs.Naming.{is_plain_byte, is_plain_extension}
use Rattle.relative_path.proofs.path.is_plain_extension.Goals as goal

by_bytes : (text : List ℕ) (plain : Bool) → (length text == 0) ≡ false → plain ≡ list_all is_plain_byte text
    → plain ≡ is_plain_extension text
by_bytes [] plain some is = absurd (true≢false some)
by_bytes (b ∷ bs) plain some is = is

pub returns-then-not-is_empty : goal.returns-then-not-is_empty
returns-then-not-is_empty c =
    let all = all_from_yields_List is_plain_byte _ _ c.all.result c.all.ensures.ran (YieldsList-from_slice c.args.text.now cc)
    (λ x b q k. search (rules, tests)) in
    by_bytes c.args.text.now c.all.result (search rules) all
