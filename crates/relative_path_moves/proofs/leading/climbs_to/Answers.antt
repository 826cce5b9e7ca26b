-- At the top of the walk no name can go any more.
use Rattle.std.proofs.Common.{◌≡◌, ◌++◌, inl, inr, sym, ap, ◌∙◌, replicate, append-nil, arith}
use Rattle.relative_path.specs.Steps.{up}
use Rattle.relative_path.specs.RelativePath.{path_components}
use Rattle.relative_path_moves.proofs.MovesLemmas.{nameless, named}
use Rattle.relative_path_moves.proofs.LeadingLemmas.{IsUp-next, IsUp-top, some_of}
use Rattle.relative_path_moves.proofs.leading.climbs_to.Goals as goal

pub loop-climb-preserved : goal.loop-climb-preserved
loop-climb-preserved c =
    let (n, is) = some_of _ (named _ _ _ c.file_name.ensures.text c.is_none.ensures c.if-is_none.false) in
    IsUp-next _ _ _ _ _ _ n c.loop-climb.invariant is c.directory-above.ensures.components
    (omega (arith, c.loop-climb-test.true))

pub returns-then-is_none : goal.returns-then-is_none
returns-then-is_none c =
    let none = nameless _ _ _ c.file_name.ensures.text c.is_none.ensures c.if-is_none.true in
    let top = IsUp-top _ _ _ _ _ c.loop-climb.invariant (inr none) c.requires.file in
    (λ t. top.1 (c.has_then.ensures.0 t), λ leads. c.has_then.ensures.1 (top.0 leads))

pub returns : goal.returns
returns c =
    let zero : c.loop-climb.climb ≡ 0 = omega (arith, c.loop-climb-test.false) in
    let top = IsUp-top _ _ _ _ _ c.loop-climb.invariant (inl zero) c.requires.file in
    let whole =
    ap (λ k. path_components c.loop-climb.above ++ replicate k up) zero ∙ append-nil (path_components c.loop-climb.above) in
    (λ t. top.1 (sym (c.eq.ensures.same.0 t) ∙ sym whole), λ leads. c.eq.ensures.same.1 (sym (top.0 leads ∙ whole)))
