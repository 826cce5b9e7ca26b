-- The slugs so far have their names, and the map has these names.
use Rattle.std.proofs.Common.{map, take, string_bytes}
use Rattle.markdown_anchors.proofs.NamesLemmas.{AreSoFar}
use Rattle.markdown_anchors.proofs.names.heading_names.Given as goal

abbrev pub invariant-loop-slug : goal.invariant-loop-slug
invariant-loop-slug l = AreSoFar (map string_bytes (take l.slug-index l.slugs)) (map string_bytes l.names.items) l.taken
