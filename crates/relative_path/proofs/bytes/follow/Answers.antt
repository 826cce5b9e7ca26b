-- As `push_in_normal_form`, over the first bytes of a slice.
use Rattle.std.proofs.Common.{refl, sym, arith, true≢false, subst, take, length, ◌≡◌}
use Rattle.std.proofs.lemmas.Grind.{common_steps}
use Rattle.relative_path.specs.Components.{step_of}
use Rattle.relative_path.specs.Steps.{components, SpellsItself}
use Rattle.relative_path.specs.Editing.{IsPopped}
use Rattle.relative_path.proofs.NormalStepsLemmas.{IsNormal-push_name, IsNormal-push_up}
use Rattle.relative_path.proofs.NormalizingLemmas.{Follows, Follows-cur, Follows-push, Follows-pop}
use Rattle.relative_path.proofs.bytes.follow.Goals as goal
use Rattle.relative_path.proofs.bytes.follow.Goals.{In-CurDir, After-parent_of, After-slice_known-in-ParentDir-2-1, After-slice_known-in-Normal-1}

stays : (c : In-CurDir) → Follows (take c.args.len c.args.out.now) (step_of c.args.component) (take c.args.len c.args.out.now)
stays c = rw c.in-CurDir.is (Follows-cur (take c.args.len c.args.out.now) c.requires.normal)

pub returns-in-CurDir-clause-same : goal.returns-in-CurDir-clause-same
returns-in-CurDir-clause-same c = (stays c).same

pub returns-in-CurDir-clause-no_longer : goal.returns-in-CurDir-clause-no_longer
returns-in-CurDir-clause-no_longer c = (stays c).no_longer

popped : (c : After-parent_of) → c.parent_of.result.now ≡ take (length c.parent_of.result.now) c.args.out.now
popped c =
    let text = c.text_of.ensures in
    let front = c.parent_of.ensures.prefix in
    grind (arith, common_steps)

pops : (c : After-parent_of) → Follows (take c.args.len c.args.out.now) (step_of c.args.component)
    (take (length c.parent_of.result.now) c.args.out.now)
pops c =
    let text = take c.args.len c.args.out.now in
    let last = c.if-ends_in_name.ensures.0 refl in
    let is : IsPopped text c.parent_of.result.now =
    subst (λ x. IsPopped x c.parent_of.result.now) c.text_of.ensures c.parent_of.ensures in
    let f : Follows text (step_of c.args.component) c.parent_of.result.now =
    rw c.in-ParentDir.is (Follows-pop text c.requires.normal last.0 last.1 _ last.2 is) in
    subst (Follows text (step_of c.args.component)) (popped c) f

pub returns-in-ParentDir-clause-normal : goal.returns-in-ParentDir-clause-normal
returns-in-ParentDir-clause-normal c = (pops c).normal_text

pub returns-in-ParentDir-clause-same : goal.returns-in-ParentDir-clause-same
returns-in-ParentDir-clause-same c = (pops c).same

pub returns-in-ParentDir-clause-no_longer : goal.returns-in-ParentDir-clause-no_longer
returns-in-ParentDir-clause-no_longer c = (pops c).no_longer

climbs : (c : After-slice_known-in-ParentDir-2-1) → Follows (take c.args.len c.args.out.now) (step_of c.args.component)
    (take c.push_within.result c.push_within.new.out)
climbs c =
    let text = take c.args.len c.args.out.now in
    let alone : SpellsItself (step_of c.args.component) = c.requires.alone in
    let ends = IsNormal-push_up (components text) c.requires.normal.normal (λ ds n e. true≢false
    (sym (c.if-ends_in_name.ensures.1 (ds, n, e)))) in
    rw (c.push_within.ensures.text, c.in-ParentDir-2.is)
    (Follows-push text c.requires.normal _ (rw c.in-ParentDir-2.is at alone) ends)

pub returns-in-ParentDir-2-clause-normal : goal.returns-in-ParentDir-2-clause-normal
returns-in-ParentDir-2-clause-normal c = (climbs c).normal_text

pub returns-in-ParentDir-2-clause-same : goal.returns-in-ParentDir-2-clause-same
returns-in-ParentDir-2-clause-same c = (climbs c).same

pub returns-in-ParentDir-2-clause-no_longer : goal.returns-in-ParentDir-2-clause-no_longer
returns-in-ParentDir-2-clause-no_longer c = (climbs c).no_longer

names : (c : After-slice_known-in-Normal-1) → Follows (take c.args.len c.args.out.now) (step_of c.args.component)
    (take c.push_within-in-Normal.result c.push_within-in-Normal.new.out)
names c =
    let text = take c.args.len c.args.out.now in
    let alone : SpellsItself (step_of c.args.component) = c.requires.alone in
    let ends = IsNormal-push_name (components text) c.in-Normal.name.now c.requires.normal.normal in
    rw (c.push_within-in-Normal.ensures.text, c.in-Normal.is)
    (Follows-push text c.requires.normal _ (rw c.in-Normal.is at alone) ends)

pub returns-in-Normal-clause-normal : goal.returns-in-Normal-clause-normal
returns-in-Normal-clause-normal c = (names c).normal_text

pub returns-in-Normal-clause-same : goal.returns-in-Normal-clause-same
returns-in-Normal-clause-same c = (names c).same

pub returns-in-Normal-clause-no_longer : goal.returns-in-Normal-clause-no_longer
returns-in-Normal-clause-no_longer c = (names c).no_longer
