-- The index has the files so far, and no two of them clash.
use Rattle.std.proofs.Common.{map}
use Rattle.std.specs.BTreeMap.{get_by_text}
use Rattle.relative_path_manifest.specs.Manifest.{file_text}
use Rattle.relative_path_manifest.proofs.ClashLemmas.{Indexes}
use Rattle.relative_path_manifest.proofs.clash.manifest_clash.Given as goal

abbrev pub invariant-loop-k : goal.invariant-loop-k
invariant-loop-k l = Indexes (map file_text l.files) l.k (get_by_text l.index)
