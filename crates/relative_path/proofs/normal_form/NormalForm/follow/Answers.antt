use Rattle.std.proofs.Common.{sym, subst}
use Rattle.std.proofs.lemmas.List.Elements.{All-pop, All-push}
use Rattle.relative_path.specs.Spans.{span_text, Cuts, CutsName}
use Rattle.relative_path.specs.Steps.{name}
use Rattle.relative_path.proofs.NormalFormLemmas.{Reduces-cur, Reduces-pop}
use Rattle.relative_path.proofs.normal_form.NormalForm.follow.Goals as goal

pub invariant_of-self-else-is_none : goal.invariant_of-self-else-is_none
invariant_of-self-else-is_none c =
    let form = c.args.self.now in
    record { cut = (All-pop (CutsName form.sources) _ _ _ c.pop.ensures.items form.cut).0 }

pub invariant_of-self-in-Normal : goal.invariant_of-self-in-Normal
invariant_of-self-in-Normal c =
    let form = c.args.self.now in
    let cuts = rw c.in-Normal.is at c.requires.cuts in
    let named = subst (λ n. Cuts form.sources c.args.span (name n)) (sym cuts.text) cuts in
    record { cut = rw c.push_reserved.ensures.items (All-push (CutsName form.sources) _ _ form.cut named) }

pub returns-in-CurDir-clause-steps : goal.returns-in-CurDir-clause-steps
returns-in-CurDir-clause-steps c = rw c.in-CurDir.is (Reduces-cur _)

pub returns-else-is_none-clause-steps : goal.returns-else-is_none-clause-steps
returns-else-is_none-clause-steps c =
    let form = c.args.self.now in
    let popped = Reduces-pop (span_text form.sources) form.climb _ _ _ c.pop.ensures.items c.if-is_none.ensures in
    rw c.in-ParentDir.is popped
