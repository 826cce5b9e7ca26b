-- A name, and a `..` that stays, are pushed; a `..` after a name pops that name.
use Rattle.std.proofs.Common.{refl, sym, arith, true≢false}
use Rattle.relative_path.specs.Components.{step_of}
use Rattle.relative_path.specs.Steps.{components, SpellsItself}
use Rattle.relative_path.proofs.NormalStepsLemmas.{IsNormal-push_name, IsNormal-push_up}
use Rattle.relative_path.proofs.NormalizingLemmas.{Follows, Follows-cur, Follows-push, Follows-pop}
use Rattle.relative_path.proofs.buf.RelativePathBuf.push_in_normal_form.Goals as goal

pub returns-in-CurDir : goal.returns-in-CurDir
returns-in-CurDir c =
    let text = c.args.self.now.text in
    let f : Follows text (step_of c.args.component) text = rw c.in-CurDir.is (Follows-cur text c.requires.normal) in
    record { normal = f.normal_text; same = f.same; no_longer = f.no_longer; room = omega arith }

pub returns-in-ParentDir : goal.returns-in-ParentDir
returns-in-ParentDir c =
    let text = c.args.self.now.text in
    let last = c.if-ends_in_name.ensures.0 refl in
    let f : Follows text (step_of c.args.component) c.pop.new.self.text =
    rw c.in-ParentDir.is (Follows-pop text c.requires.normal last.0 last.1 _ last.2 c.pop.ensures.text) in
    record { normal = f.normal_text; same = f.same; no_longer = f.no_longer; room = omega (arith, c.pop.ensures.room) }

pub returns-in-ParentDir-2 : goal.returns-in-ParentDir-2
returns-in-ParentDir-2 c =
    let text = c.args.self.now.text in
    let alone : SpellsItself (step_of c.args.component) = c.requires.alone in
    let ends = IsNormal-push_up (components text) c.requires.normal.normal (λ ds n e. true≢false
    (sym (c.if-ends_in_name.ensures.1 (ds, n, e)))) in
    let f : Follows text (step_of c.args.component) c.push_reserved.new.self.text =
    rw (c.push_reserved.ensures.text, c.new.ensures, c.in-ParentDir-2.is)
    (Follows-push text c.requires.normal _ (rw c.in-ParentDir-2.is at alone) ends) in
    record { normal = f.normal_text; same = f.same; no_longer = f.no_longer; room = c.push_reserved.ensures.room }

pub returns-in-Normal : goal.returns-in-Normal
returns-in-Normal c =
    let text = c.args.self.now.text in
    let alone : SpellsItself (step_of c.args.component) = c.requires.alone in
    let ends = IsNormal-push_name (components text) c.in-Normal.name.now c.requires.normal.normal in
    let f : Follows text (step_of c.args.component) c.push_reserved-in-Normal.new.self.text =
    rw (c.push_reserved-in-Normal.ensures.text, c.new-in-Normal.ensures, c.in-Normal.is)
    (Follows-push text c.requires.normal _ (rw c.in-Normal.is at alone) ends) in
    record {
      normal = f.normal_text;
      same = f.same;
      no_longer = f.no_longer;
      room = c.push_reserved-in-Normal.ensures.room;
    }
