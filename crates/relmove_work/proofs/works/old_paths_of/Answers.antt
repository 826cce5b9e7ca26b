-- Each turn adds the next old path.
use Rattle.std.proofs.Common.{map, string_bytes, take, subst, sym, arith}
use Rattle.std.proofs.lemmas.List.{take_all}
use Rattle.std.proofs.lemmas.Map.Text.{btree_map_updates_str}
use Rattle.relmove_work.specs.Pages.{HasOldPaths}
use Rattle.relmove_work.specs.Works.{rename_text}
use Rattle.relmove_work.proofs.MakingLemmas.{HasOldPaths-more, IsInserted, map-next}
use Rattle.relmove_work.proofs.works.old_paths_of.Goals as goal

pub loop-rename-preserved : goal.loop-rename-preserved
loop-rename-preserved c =
    let renames = c.args.renames.now in
    let k = c.loop-rename.rename-index in
    let rename = c.rename-item.result in
    subst (λ rs. HasOldPaths rs c.insert.new.self) (sym (map-next rename_text renames k rename c.loop-rename-test.true c.rename-item.is))
    (HasOldPaths-more (map rename_text (take k renames)) c.loop-rename.olds c.insert.new.self (string_bytes rename.from)
    (string_bytes rename.to) c.as_str-in-loop-rename.result c.loop-rename.invariant
    (subst (λ key. IsInserted c.loop-rename.olds c.insert.new.self key c.as_str-in-loop-rename.result) c.as_str.ensures.value
    (btree_map_updates_str c.as_str.result.now c.loop-rename.olds c.insert.new.self _ c.in_ok-insert.ensures.updates))
    c.as_str-in-loop-rename.ensures.value)

pub returns : goal.returns
returns c =
    subst (λ rs. HasOldPaths (map rename_text rs) c.loop-rename.olds)
    (take_all c.loop-rename.rename-index c.args.renames.now (omega (arith, c.loop-rename-test.false))) c.loop-rename.invariant
