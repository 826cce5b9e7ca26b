-- The text is cut to what comes before its last component.
use Rattle.std.proofs.Common.{◌∙◌, ap, subst, sym}
use Rattle.std.specs.Str.{IsUtf8}
use Rattle.relative_path.specs.Editing.{IsPopped}
use Rattle.relative_path.proofs.NamingEditsLemmas.{IsSame-IsPopped, IsSome-walk_popped}
use Rattle.relative_path.proofs.buf.RelativePathBuf.pop.Goals as goal

pub cut_to-requires : goal.cut_to-requires
cut_to-requires c =
    let text = c.as_str.ensures.value ∙ ap (λ b. b.text) c.self.view_is in
    let before = subst (λ x. IsPopped x c.parent_of-len.result.now) text c.parent_of-len.ensures in
    subst IsUtf8 before.prefix c.parent_of-len.utf8

pub returns-clause-text : goal.returns-clause-text
returns-clause-text c =
    let text = c.as_str.ensures.value ∙ ap (λ b. b.text) c.self.view_is in
    let before = subst (λ x. IsPopped x c.parent_of-len.result.now) text c.parent_of-len.ensures in
    subst (IsPopped c.args.self.now.text) (before.prefix ∙ sym c.cut_to.ensures.text) before

pub returns-clause-rejoined : goal.returns-clause-rejoined
returns-clause-rejoined c = λ n named. IsSame-IsPopped _ _ n (returns-clause-text c) named

pub returns-clause-leads : goal.returns-clause-leads
returns-clause-leads c = IsSome-walk_popped _ _ (returns-clause-text c)
