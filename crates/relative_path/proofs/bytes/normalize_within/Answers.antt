-- Each turn follows the first component of what is left.
use Rattle.std.proofs.Common.{◌≡◌, ◌∷◌, ℕ, List, subst, refl, arith, length-take-le}
use Rattle.std.proofs.lemmas.Str.{IsUtf8-nil}
use Rattle.relative_path.specs.Steps.{Step, components, SpellThemselves, SpellsItself}
use Rattle.relative_path.proofs.StepsLemmas.{SpellThemselves-components}
use Rattle.relative_path.proofs.NormalizingLemmas.{Follows, Normalizes, Normalizes-start, Normalizes-follow, Normalizes-end, pushed_fits}
use Rattle.relative_path.proofs.bytes.normalize_within.Goals as goal

pub loop-component-init : goal.loop-component-init
loop-component-init c =
    record {
      normalizes =
          rw (c.into_iter-component-iterator.ensures.into_iter_gives, c.new-component-items.ensures)
          (Normalizes-start c.args.text.now);
      utf8 = IsUtf8-nil;
      within = omega arith;
      size = refl;
    }

-- the invariant with the first component written out, which spells itself
taken : (source : List Step) (limit : ℕ) (text rest : List ℕ) (c : Step) (left : List Step)
    → Normalizes source limit text (components rest) → components rest ≡ c ∷ left
    → Normalizes source limit text (c ∷ left) × SpellsItself c
taken source limit text rest c left h first =
    (subst (Normalizes source limit text) first h, (subst SpellThemselves first (SpellThemselves-components rest)).0)

pub follow-len-requires-clause-within : goal.follow-len-requires-clause-within
follow-len-requires-clause-within c = c.loop-component.invariant.within

pub follow-len-requires-clause-utf8 : goal.follow-len-requires-clause-utf8
follow-len-requires-clause-utf8 c = c.loop-component.invariant.utf8

pub follow-len-requires-clause-normal : goal.follow-len-requires-clause-normal
follow-len-requires-clause-normal c = c.loop-component.invariant.normalizes.normal_text

pub follow-len-requires-clause-alone : goal.follow-len-requires-clause-alone
follow-len-requires-clause-alone c =
    (taken _ _ _ _ _ _ c.loop-component.invariant.normalizes c.in-Some.ensures.steps.0).1

pub follow-len-requires-clause-fits : goal.follow-len-requires-clause-fits
follow-len-requires-clause-fits c =
    let here = taken _ _ _ _ _ _ c.loop-component.invariant.normalizes c.in-Some.ensures.steps.0 in
    let fits = pushed_fits _ _ _ _ _ here.0 here.1 in
    let size = c.loop-component.invariant.size in
    let room = c.requires.room in
    omega arith

pub loop-component-preserved : goal.loop-component-preserved
loop-component-preserved c =
    let before = c.loop-component.invariant in
    let here = taken _ _ _ _ _ _ before.normalizes c.in-Some.ensures.steps.0 in
    let followed = c.follow-len.ensures in
    let step : Follows _ _ _ =
    record { normal_text = followed.normal; same = followed.same; no_longer = followed.no_longer } in
    record {
      normalizes = Normalizes-follow _ _ _ _ _ _ here.0 step;
      utf8 = followed.utf8;
      within = followed.within;
      size = omega (arith, before.size, followed.size);
    }

pub returns-clause-normal_form : goal.returns-clause-normal_form
returns-clause-normal_form c =
    (Normalizes-end _ _ _ _ c.loop-component.invariant.normalizes c.in-None.ensures.steps.0).0

pub returns-clause-no_longer : goal.returns-clause-no_longer
returns-clause-no_longer c =
    let end = (Normalizes-end _ _ _ _ c.loop-component.invariant.normalizes c.in-None.ensures.steps.0).1 in
    let within = c.loop-component.invariant.within in
    let len = length-take-le c.loop-component.len c.loop-component.out within in
    omega arith
