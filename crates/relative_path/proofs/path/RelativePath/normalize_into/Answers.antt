-- Each turn follows the first component of what is left.
use Rattle.std.proofs.Common.{◌≡◌, ◌∷◌, ℕ, List, subst, arith}
use Rattle.relative_path.specs.Steps.{Step, components, SpellThemselves, SpellsItself}
use Rattle.relative_path.specs.RelativePath.{path_text}
use Rattle.relative_path.proofs.StepsLemmas.{SpellThemselves-components}
use Rattle.relative_path.proofs.NormalizingLemmas.{Follows, Normalizes, Normalizes-start, Normalizes-follow, Normalizes-end, pushed_fits, last_name-IsNormalTextOf}
use Rattle.relative_path.proofs.path.RelativePath.normalize_into.Goals as goal

pub loop-component-init : goal.loop-component-init
loop-component-init c =
    let left = c.into_iter-component-iterator.ensures.into_iter_gives in
    record {
      normalizes =
          rw (c.requires.empty, left, c.components-component-items.ensures.text)
          (Normalizes-start (path_text c.args.self));
      fits = c.requires.room;
      room = omega arith;
    }

-- the invariant with the first component written out, which spells itself
taken : (source : List Step) (limit : ℕ) (text rest : List ℕ) (c : Step) (left : List Step)
    → Normalizes source limit text (components rest) → components rest ≡ c ∷ left
    → Normalizes source limit text (c ∷ left) × SpellsItself c
taken source limit text rest c left h first =
    (subst (Normalizes source limit text) first h, (subst SpellThemselves first (SpellThemselves-components rest)).0)

pub push_in_normal_form-requires : goal.push_in_normal_form-requires
push_in_normal_form-requires c =
    let here = taken _ _ _ _ _ _ c.loop-component.invariant.normalizes c.in-Some.ensures.steps.0 in
    let fits = pushed_fits _ _ _ _ _ here.0 here.1 in
    let room = c.loop-component.invariant.fits in
    record { normal = here.0.normal_text; alone = here.1; fits = omega arith }

pub loop-component-preserved : goal.loop-component-preserved
loop-component-preserved c =
    let before = c.loop-component.invariant in
    let here = taken _ _ _ _ _ _ before.normalizes c.in-Some.ensures.steps.0 in
    let followed = c.push_in_normal_form.ensures in
    let step : Follows _ _ _ =
    record { normal_text = followed.normal; same = followed.same; no_longer = followed.no_longer } in
    record {
      normalizes = Normalizes-follow _ _ _ _ _ _ here.0 step;
      fits = omega (arith, before.fits, followed.room);
      room = omega (arith, before.room, followed.room);
    }

pub returns : goal.returns
returns c =
    let end = Normalizes-end _ _ _ _ c.loop-component.invariant.normalizes c.in-None.ensures.steps.0 in
    record {
      normal_form = end.0;
      no_longer = end.1;
      file_name = last_name-IsNormalTextOf _ _ end.0;
      room = c.loop-component.invariant.room;
    }
