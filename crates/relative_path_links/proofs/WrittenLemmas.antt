-- What is written for a way leads where the way leads.
use Rattle.std.proofs.Common.{◌≡◌, List, [], ◌∷◌, ◌++◌, ℕ, ◌&&◌, not, false, codes, refl, sym, ap, ◌∙◌}
use Rattle.std.proofs.lemmas.Bool.{cond-false, cond_both}
use Rattle.relative_path.specs.Steps.{cur, slash, components, spell}
use Rattle.relative_path.specs.Walk.{IsSame}
use Rattle.relative_path.specs.Unix.{has_root}
use Rattle.relative_path.proofs.ForCallers.{IsSame-refl, IsSame-trans, SpellThemselves-components, has_root-spell, components-trailing_slash, components-pushed}
use Rattle.relative_path.proofs.OnLiterals.{relative_path_on_literals}
use Rattle.target_paths.specs.Writing.{path_written}
use Rattle.relative_path_links.specs.SiteRoot.{begins_with_dot}
use Rattle.relative_path_links.specs.Rewriter.{begins_with_up, with_slash, written_like}

-- a path without a slash at its start is written so that it leads where it leads itself, with a slash at its end too
IsSame-with_slash : (path new : List ℕ) → has_root new ≡ false
    → IsSame (components new) (components (path_written (with_slash path new)))
unfolding relative_path_on_literals
IsSame-with_slash path [] no_slash =
    cond_both _ (slash ∷ []) [] (λ new. IsSame (components []) (components (path_written new)))
    (λ _. record { everywhere = λ base. refl }) (λ _. record { everywhere = λ base. refl })
IsSame-with_slash path (b ∷ bs) no_slash =
    cond_both _ ((b ∷ bs) ++ slash ∷ []) (b ∷ bs) (λ new. IsSame (components (b ∷ bs)) (components (path_written new)))
    (λ _. rw (whole (bs ++ slash ∷ []), components-trailing_slash (b ∷ bs)) (IsSame-refl (components (b ∷ bs))))
    (λ _. rw (whole bs) (IsSame-refl (components (b ∷ bs)))) where
      whole : (rest : List ℕ) → path_written (b ∷ rest) ≡ b ∷ rest
      whole rest = rw no_slash refl

-- `./` before a path without a slash at its start is one component more, which leads nowhere else
components-dot : (way : List ℕ) → has_root way ≡ false → components (codes "./" ++ way) ≡ cur ∷ components way
unfolding relative_path_on_literals
components-dot [] no_slash = refl
components-dot (b ∷ bs) no_slash =
    ap (λ rest. components (codes "./" ++ rest)) (sym (cond-false _ _ _ no_slash)) ∙ components-pushed (codes ".") (b ∷ bs)

-- a text that spells its components doesn't begin with a slash
pub has_root-spelled : (way : List ℕ) → way ≡ spell (components way) → has_root way ≡ false
has_root-spelled way spelled = ap has_root spelled ∙ has_root-spell (components way) (SpellThemselves-components way)

-- a way is written so that it leads where it leads itself, with the `./` and the slash of the path too
pub IsSame-written : (path way : List ℕ) → way ≡ spell (components way)
    → IsSame (components way) (components (path_written (written_like path way)))
IsSame-written path way spelled =
    cond_both (begins_with_dot path && not (begins_with_up way)) (codes "./" ++ way) way
    (λ new. IsSame (components way) (components (path_written (with_slash path new))))
    (λ _. IsSame-trans (rw (components-dot way no_slash) (record { everywhere = λ base. refl }))
    (IsSame-with_slash path (codes "./" ++ way) refl))
    (λ _. IsSame-with_slash path way no_slash) where
      no_slash : has_root way ≡ false
      no_slash = has_root-spelled way spelled
