-- Pushes one after another: what the first of them leave, and the length of the text.
use Rattle.std.proofs.Common.{◌≡◌, ℕ, suc, ◌+◌, ◌<◌, ◌≤◌, true, false, List, [], ◌∷◌, ◌++◌, map, length, take, drop, get_or, Option, IfSome, sym, refl, ap, ap₂, ◌∙◌, append_assoc, append-nil, arith, length-append, take_at}
use Rattle.std.specs.List.{slice_get}
use Rattle.std.proofs.lemmas.List.{map-append, drop_all}
use Rattle.std.proofs.iter.runs.Made.{run, to_end, to_item}
use Rattle.relative_path.specs.declared.path.RelativePath.{RelativePath}
use Rattle.relative_path.specs.Editing.{pushed}
use Rattle.relative_path.specs.RelativePath.{path_text}
use Rattle.relative_path.specs.RelativePathBuf.{Buffer}
use Rattle.relative_path.specs.Pushing.{pushed_all, StopsWithin, PushesAll, PushesUntilFull, PushesWholeRun, StopsRun}
use Rattle.relative_path.proofs.EditingLemmas.{length-pushed_le}

pub pushed_all-append : (text : List ℕ) (ps qs : List (List ℕ))
    → pushed_all text (ps ++ qs) ≡ pushed_all (pushed_all text ps) qs
pushed_all-append text [] qs = refl
pushed_all-append text (p ∷ ps) qs = pushed_all-append (pushed text p) ps qs

-- no push makes a text shorter
pub length-pushed_all_le : (text : List ℕ) (ps : List (List ℕ)) → length text ≤ length (pushed_all text ps)
length-pushed_all_le text [] = omega arith
length-pushed_all_le text (p ∷ ps) = omega (arith, length-pushed_le text p, length-pushed_all_le (pushed text p) ps)

-- some paths were pushed, and the next one doesn't fit the room
module _ (old new : Buffer) (front : List (List ℕ)) (path : List ℕ) (more texts : List (List ℕ))
    (joined : texts ≡ (front ++ path ∷ []) ++ more) (text : new.text ≡ pushed_all old.text front) where
  count : length (front ++ path ∷ []) ≡ length front + 1
  count = omega (arith, length-append front (path ∷ []))

  first : take (length front) texts ≡ front
  first =
      ap (take (length front)) (joined ∙ append_assoc front (path ∷ []) more)
      ∙ take_at front (path ∷ more) (length front) refl

  first_and_one : take (length front + 1) texts ≡ front ++ path ∷ []
  first_and_one = ap (take (length front + 1)) joined ∙ take_at (front ++ path ∷ []) more (length front + 1) count

  one_more : pushed_all old.text (front ++ path ∷ []) ≡ pushed new.text path
  one_more = pushed_all-append old.text front (path ∷ []) ∙ ap (λ t. pushed t path) (sym text)

  whole : pushed_all old.text texts ≡ pushed_all (pushed new.text path) more
  whole =
      let parts = ap (pushed_all old.text) joined ∙ pushed_all-append old.text (front ++ path ∷ []) more in
      parts ∙ ap (λ t. pushed_all t more) one_more

  StopsWithin-from : new.room < length (pushed new.text path) → old.room ≤ new.room → StopsWithin old new texts
  StopsWithin-from stopped room =
      record {
        count = length front;
        before_end = omega (arith, ap length joined, count, length-append (front ++ path ∷ []) more);
        text = text ∙ ap (pushed_all old.text) (sym first);
        stopped = rw (first_and_one, one_more) stopped;
        full = omega (arith, stopped, room, ap length whole, length-pushed_all_le (pushed new.text path) more);
      }

-- the texts that are read by index are the first ones of the list
front_texts : (xs : List RelativePath) (texts : List (List ℕ)) → length xs ≤ length texts
    → ((k : ℕ) → IfSome (slice_get xs k) (λ path. path_text path ≡ get_or texts k (path_text path)))
    → texts ≡ map path_text xs ++ drop (length xs) texts
front_texts [] texts within reads = refl
front_texts (x ∷ xs) [] within reads = absurd (omega arith)
front_texts (x ∷ xs) (u ∷ texts) within reads =
    ap₂ (λ y ys. y ∷ ys) (sym (reads 0)) (front_texts xs texts (omega arith) (λ k. reads (suc k)))

-- and all of the list, if no more follow
all_texts : (xs : List RelativePath) (texts : List (List ℕ)) → length xs ≡ length texts
    → ((k : ℕ) → IfSome (slice_get xs k) (λ path. path_text path ≡ get_or texts k (path_text path)))
    → map path_text xs ≡ texts
all_texts xs texts long reads =
    let front = front_texts xs texts (omega (arith, long)) reads in
    let rest = drop_all (length xs) texts (omega (arith, long)) in
    sym (front ∙ ap (λ ys. map path_text xs ++ ys) rest ∙ append-nil (map path_text xs))

module _ {U T : Type 0} (becomes : U → T → Type 0) (steps : T → Option RelativePath → T → Type 0) (iter : U) where
  pub PushesWholeRun-from : (old new : List ℕ)
      → PushesAll becomes steps iter old new → PushesWholeRun becomes steps iter old new
  PushesWholeRun-from old new (it, xs, is, drains, text) =
      let all = run steps it xs true (to_end steps it xs drains) in
      (it, is, (all, refl, refl, λ texts long reads. text ∙ ap (pushed_all old) (all_texts xs texts long reads)))

  pub StopsRun-from : (old new : Buffer) → old.room ≤ new.room
      → PushesUntilFull becomes steps iter old new → StopsRun becomes steps iter old new
  StopsRun-from old new room (it, xs, x, u, is, ran, text, stopped) =
      let all = xs ++ x ∷ [] in
      let front = map path_text xs in
      let came = run steps it all false (to_item steps it u xs x ran) in
      let seam : map path_text all ≡ front ++ path_text x ∷ [] = map-append path_text xs (x ∷ []) in (
        it,
        is,
        (
          came,
          refl,
          λ texts within reads.
              let parts = front_texts all texts within reads ∙ ap (λ ys. ys ++ drop (length all) texts) seam in
              StopsWithin-from old new front (path_text x) _ texts parts text stopped room,
        ),
      )
