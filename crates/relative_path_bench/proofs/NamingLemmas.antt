-- A parent and the file name after it.
use Rattle.std.proofs.Common.{◌≡◌, ◌≢◌, ℕ, ◌+◌, ◌-◌, ◌<◌, true, true≢false, List, [], ◌∷◌, ◌++◌, length, take, get_or, reverse, Some, ⊎_elim, sym, ap, ◌∙◌, arith}
use Rattle.std.specs.List.{suffix_len}
use Rattle.std.specs.Prelude.{slice_get}
use Rattle.std.proofs.lemmas.Bool.{cases_lt}
use Rattle.std.proofs.lemmas.List.{take_more, get_or-reverse, length-reverse}
use Rattle.std.proofs.lemmas.List.Sums.{prefix_len_passes, suffix_len-le-length}
use Rattle.std.proofs.lemmas.Option.{slice_get_within, get_or_from_slice_get}
use Rattle.relative_path.specs.Steps.{Step, cur, name, pieces, components}
use Rattle.relative_path.specs.Editing.{is_cur, kept_len}
use Rattle.relative_path_bench.specs.Naming.{without_last_curs}

-- a text with a component is not empty
pub nonempty_text : (text : List ℕ) (k : ℕ) (c : Step) → slice_get (components text) k ≡ Some c → text ≢ []
unfolding components pieces
nonempty_text text k c found = λ empty.
    let none = ap (λ x. slice_get (components x) k) (sym empty) ∙ found in
    absurd (cc)

-- if there are only `.`, the first component is a `.`
cur_first : (cs : List Step) (d : Step) → length cs ≡ suffix_len is_cur cs → 0 < length cs
    → is_cur (get_or cs 0 d) ≡ true
cur_first cs d all some =
    let count = length-reverse cs in
    let index : length cs - 1 - (length cs - 1) ≡ 0 = omega arith in
    let there = get_or-reverse cs (length cs - 1) d (omega arith) ∙ ap (λ i. get_or cs i d) index in
    ap is_cur (sym there) ∙ prefix_len_passes is_cur (reverse cs) (length cs - 1) d (omega (arith, all, some))

-- the components that a parent keeps, and then the name, are all but the `.` at the end
pub without_last_curs-kept : (cs front : List Step) (n : List ℕ) → front ≡ take (kept_len cs) cs
    → slice_get cs (kept_len cs) ≡ Some (name n) → front ++ name n ∷ [] ≡ without_last_curs cs
without_last_curs-kept cs front n kept placed =
    let inside = slice_get_within cs (kept_len cs) (name n) placed in
    let at = get_or_from_slice_get cs (kept_len cs) (name n) cur placed in
    let count : kept_len cs + 1 ≡ length cs - suffix_len is_cur cs = ⊎_elim
    (λ some. omega arith)
    (λ none.
    let all = suffix_len-le-length is_cur cs in
    let first : kept_len cs ≡ 0 = omega arith in
    let there = cur_first cs cur (omega arith) (omega arith) in
    let is : is_cur (name n) ≡ true = ap is_cur (sym at) ∙ ap (λ i. is_cur (get_or cs i cur)) first ∙ there in
    absurd (true≢false (sym is)))
    (cases_lt (suffix_len is_cur cs) (length cs)) in
    ap (λ ds. ds ++ name n ∷ []) kept ∙ ap (λ c. take (kept_len cs) cs ++ c ∷ []) (sym at)
    ∙ sym (take_more cs (kept_len cs) cur inside) ∙ ap (λ k. take k cs) count
