-- Each turn adds the next move.
use Rattle.std.proofs.Common.{◌≡◌, ◌≤◌, Global, length, map, string_bytes, sym, ap, ◌∙◌, arith}
use Rattle.std.proofs.lemmas.List.{length-map, length_push, take_all}
use Rattle.std.proofs.lemmas.Slice.Zip.{zip_end, zip_turn}
use Rattle.std.specs.Iterator.Adapters.{zip_first, zip_second}
use Rattle.std.specs.Slice.Iter.{iter_rest}
use Rattle.relative_path_moves.specs.Moves.{written_moves}
use Rattle.relmove_checks.proofs.ForCallers.{length-written}
use Rattle.relative_path.specs.RelativePath.{path_text}
use Rattle.relmove_steps.specs.Directories.{moves_to_names}
use Rattle.relmove_steps.proofs.DirectoriesLemmas.{length-moves_to_names, moves_to_names-next}
use Rattle.relmove_steps.proofs.renames.moves_to_staging.Goals as goal

pub loop-a-preserved : goal.loop-a-preserved
loop-a-preserved c =
    let moves = c.args.moves.now in
    let staging = c.args.staging.now in
    let start = c.into_iter-a-iterator.result in
    let is = c.into_iter-a-iterator.ensures.into_iter_gives in
    let first : iter_rest (zip_first start) ≡ moves =
    ap (λ pairs. iter_rest (zip_first pairs)) is ∙ ap iter_rest c.zip-a-items.ensures.first ∙ c.iter.ensures.rest in
    let second : iter_rest (zip_second start) ≡ staging =
    ap (λ pairs. iter_rest (zip_second pairs)) is ∙ c.zip-a-items.ensures.second.0 in
    let so_far = c.loop-a.yielded in
    let turn =
    zip_turn moves staging so_far start c.loop-a.a-iterator c.next.new.self c.next.result first second
    c.loop-a.yielded_by (c.in-Some.a, c.in-Some.name) c.in-Some.is c.next.ensures.steps in
    let item = c.in-Some.name.now in
    let move = c.in-Some.a.now in
    rw (c.in_ok-push.ensures.items, length_push so_far (c.in-Some.a, c.in-Some.name))
    (moves_to_names-next moves staging c.loop-a.news.items (length so_far) move
    (record { old = c.in_ok-old.old; new = c.in_ok-new.new }) item turn.0 turn.1 (turn.2 move) (turn.3 item)
    c.in_ok-old.ensures (ap path_text c.in_ok-new.ensures ∙ c.new.ensures ∙ c.deref.ensures) c.loop-a.invariant)

pub returns : goal.returns
returns c =
    let moves = c.args.moves.now in
    let staging = c.args.staging.now in
    let names = map (string_bytes {Z = Global}) staging in
    let start = c.into_iter-a-iterator.result in
    let is = c.into_iter-a-iterator.ensures.into_iter_gives in
    let first : iter_rest (zip_first start) ≡ moves =
    ap (λ pairs. iter_rest (zip_first pairs)) is ∙ ap iter_rest c.zip-a-items.ensures.first ∙ c.iter.ensures.rest in
    let second : iter_rest (zip_second start) ≡ staging =
    ap (λ pairs. iter_rest (zip_second pairs)) is ∙ c.zip-a-items.ensures.second.0 in
    let all =
    zip_end moves staging c.loop-a.yielded start c.loop-a.a-iterator c.next.new.self c.next.result first second
    c.loop-a.yielded_by c.in-None.is c.next.ensures.steps in
    let count = length-map staging (string_bytes {Z = Global}) ∙ c.requires ∙ sym (length-written moves) in
    let long = length-moves_to_names (written_moves moves) names count in
    let none_left : length (moves_to_names (written_moves moves) names) ≤ length c.loop-a.yielded =
    rw (long, length-written moves) (let same = c.requires in omega (arith, all, same)) in
    c.loop-a.invariant ∙ take_all (length c.loop-a.yielded) (moves_to_names (written_moves moves) names) none_left
