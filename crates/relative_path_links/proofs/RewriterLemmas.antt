-- What becomes of a target by what becomes of its path.
use Rattle.std.proofs.Common.{◌≡◌, ℕ, Bool, true, false, List, ◌++◌, length, inl, inr, refl, sym, subst, string_bytes}
use Rattle.relative_path.specs.Relating.{IsShortestText}
use Rattle.relative_path_moves.specs.Moves.{BelowTop}
use Rattle.target_paths.specs.declared.target.TargetSyntax.{TargetSyntax}
use Rattle.target_paths.specs.Reading.{IsTail, path_before}
use Rattle.target_paths.specs.Writing.{path_written}
use Rattle.relative_path_links.specs.declared.edit.Change.{Change}
use Rattle.relative_path_links.specs.declared.edit.Change.TheVariants.{Kept, New, Left}
use Rattle.relative_path_links.specs.SiteRoot.{Moving, begins_with_dot, meaning_at, target_at}
use Rattle.relative_path_links.specs.Rewriter.{AtLostFile, written_like, IsMovedTarget, ChangesPath, IsChangeByWay, IsRootedChangeByWay, IsChangeAt}
use Rattle.relative_path_links.proofs.SiteRootLemmas.{meaning-rooted}

-- what is written for a way is a moved target, or has a NUL, or leads above the site's root
module _ (m : Moving) (syntax : TargetSyntax) (path tail : List ℕ) (is_tail : IsTail syntax tail) (way : List ℕ)
    (shortest : AtLostFile m path (BelowTop (λ file. IsShortestText m.after file way)))
  where
    IsMovedTarget-way : (rooted : Bool) → m.is_rooted ≡ rooted → (text : List ℕ)
        → text ≡ target_at rooted (written_like path way) ++ tail
        → meaning_at rooted syntax text
        ≡ path_before (path_written (written_like path way)) (length (target_at rooted (written_like path way)))
        → IsMovedTarget m syntax path tail text
    IsMovedTarget-way rooted is text whole read = record {
      new = written_like path way;
      is_new = record { way = way; shortest = shortest; text = refl };
      whole = subst (λ rooted. text ≡ target_at rooted (written_like path way) ++ tail) (sym is) whole;
      read =
          subst
          (λ rooted. meaning_at rooted syntax text
          ≡ path_before (path_written (written_like path way)) (length (target_at rooted (written_like path way))))
          (sym is) read;
    }

    ChangesPath-way : m.is_rooted ≡ false → (change : Change) → IsChangeByWay path tail way change
        → ChangesPath m syntax path tail change
    ChangesPath-way rooted Kept is = absurd is
    ChangesPath-way rooted (New text) (no_nul, whole, taken) =
        IsMovedTarget-way false rooted (string_bytes text) whole (rw whole (taken syntax tail is_tail))
    ChangesPath-way rooted (Left why) (nul, has) =
        rw nul (written_like path way, record { way = way; shortest = shortest; text = refl }, has)

    ChangesPath-rooted : m.is_rooted ≡ true → begins_with_dot path ≡ true → (change : Change)
        → IsRootedChangeByWay path tail way change → ChangesPath m syntax path tail change
    ChangesPath-rooted rooted dotted Kept is = absurd is
    ChangesPath-rooted rooted dotted (New text) (place, whole, taken) =
        let (file, there, (lost, (below, way_is))) = shortest in
        IsMovedTarget-way true rooted (string_bytes text) whole
        (rw whole (meaning-rooted syntax path way tail dotted way_is.spelled place is_tail taken))
    ChangesPath-rooted rooted dotted (Left why) (inl (outside, climbs)) = rw outside (rooted, way, shortest, climbs)
    ChangesPath-rooted rooted dotted (Left why) (inr (nul, has)) =
        rw nul (written_like path way, record { way = way; shortest = shortest; text = refl }, has)

    pub ChangesPath-at : (m.is_rooted ≡ true → begins_with_dot path ≡ true) → (change : Change)
        → IsChangeAt m.is_rooted path tail way change → ChangesPath m syntax path tail change
    ChangesPath-at dotted change is = by m.is_rooted refl is where
      by : (rooted : Bool) → m.is_rooted ≡ rooted → IsChangeAt rooted path tail way change
          → ChangesPath m syntax path tail change
      by true rooted is = ChangesPath-rooted rooted (dotted rooted) change is
      by false rooted is = ChangesPath-way rooted change is
