-- The targets so far have the spans of the links so far.
use Rattle.std.proofs.Common.{◌≡◌, map, take}
use Rattle.relative_path_links.specs.Targets.{span_of}
use Rattle.relative_path_links.proofs.finder.with_syntax.Given as goal

abbrev pub invariant-loop-link : goal.invariant-loop-link
invariant-loop-link l = map span_of l.targets.items ≡ map (λ link. link.span) (take l.link-index l.links)
