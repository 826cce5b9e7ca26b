-- The tests of the new paths, one after another.
use Rattle.std.proofs.lemmas.Slice.Zip.{AllZip-long}
use Rattle.relmove_checks.specs.Trees.{IsAfter}
use Rattle.relmove_checks.specs.Plan.{StayApart, news, collision, below_file, below_unread}
use Rattle.relmove_checks.proofs.MovesLemmas.{IfErr-error}
use Rattle.relmove_checks.proofs.PlanLemmas.{IndexesAfter-apart}
use Rattle.relmove_checks.proofs.allowed.coming_index.Goals as goal

pub index_after-requires : goal.index_after-requires
index_after-requires c =
    rw c.deref.ensures.value
    (AllZip-long (IsAfter c.args.table.now) c.args.entries.now c.in_ok-paths.paths.items c.in_ok-paths.ensures)

pub returns-in_err-check_news-clause-refused : goal.returns-in_err-check_news-clause-refused
returns-in_err-check_news-clause-refused c =
    IfErr-error c.from_residual-in_err-check_news.result c.in_err-check_news.field-0.0 _
    c.from_residual-in_err-check_news.ensures.1
    (λ rule leave. news leave c.in_ok-check_same_new.ensures.apart
    (rw c.moves-moves.ensures.moves at c.in_err-check_news.ensures.refused))

pub returns-in_err-after-clause-refused : goal.returns-in_err-after-clause-refused
returns-in_err-after-clause-refused c =
    let free = rw c.moves-moves.ensures.moves at c.in_ok-check_news.ensures.fine in
    let are_after = c.in_ok-paths.ensures in
    let refused = rw c.deref.ensures.value at c.in_err-after.ensures.refused in
    IfErr-error c.from_residual-in_err-after.result c.in_err-after.field-0.0 _ c.from_residual-in_err-after.ensures.1
    (λ rule leave. collision
    (record { leave = leave; apart = c.in_ok-check_same_new.ensures.apart; free = free })
    (record { after = c.in_ok-paths.paths.items; are_after = are_after; refused = refused }))

pub returns-in_err-check_above-clause-refused : goal.returns-in_err-check_above-clause-refused
returns-in_err-check_above-clause-refused c =
    let free = rw c.moves-moves.ensures.moves at c.in_ok-check_news.ensures.fine in
    let are_after = c.in_ok-paths.ensures in
    let distinct = rw c.deref.ensures.value at c.in_ok-after.ensures.distinct in
    let indexes = rw c.deref.ensures.value at c.in_ok-after.ensures.indexes in
    let moves = c.args.table.now in
    IfErr-error c.from_residual-in_err-check_above.result c.in_err-check_above.field-0.0 _
    c.from_residual-in_err-check_above.ensures.1
    (λ rule leave.
    let apart : StayApart c.args.entries.now moves rule = record {
      come = record { leave = leave; apart = c.in_ok-check_same_new.ensures.apart; free = free };
      after = c.in_ok-paths.paths.items;
      are_after = are_after;
      distinct = distinct;
    } in
    below_file apart
    ((rw c.moves-moves.ensures.moves at c.in_err-check_above.ensures.refused) moves
    (IndexesAfter-apart c.args.entries.now moves rule c.in_ok-after.after apart indexes)))

pub returns-in_err-check_above-2-clause-refused : goal.returns-in_err-check_above-2-clause-refused
returns-in_err-check_above-2-clause-refused c =
    let free = rw c.moves-moves.ensures.moves at c.in_ok-check_news.ensures.fine in
    let are_after = c.in_ok-paths.ensures in
    let distinct = rw c.deref.ensures.value at c.in_ok-after.ensures.distinct in
    let indexes = rw c.deref.ensures.value at c.in_ok-after.ensures.indexes in
    let moves = c.args.table.now in
    IfErr-error c.from_residual-in_err-check_above-2.result c.in_err-check_above-2.field-0.0 _
    c.from_residual-in_err-check_above-2.ensures.1
    (λ rule leave.
    let apart : StayApart c.args.entries.now moves rule = record {
      come = record { leave = leave; apart = c.in_ok-check_same_new.ensures.apart; free = free };
      after = c.in_ok-paths.paths.items;
      are_after = are_after;
      distinct = distinct;
    } in
    let known = IndexesAfter-apart c.args.entries.now moves rule c.in_ok-after.after apart indexes in
    below_unread apart ((rw c.moves-moves.ensures.moves at c.in_ok-check_above.ensures.fine) moves known)
    ((rw c.moves-moves.ensures.moves at c.in_err-check_above-2.ensures.refused) moves known))

pub returns-clause-fine : goal.returns-clause-fine
returns-clause-fine c =
    let free = rw c.moves-moves.ensures.moves at c.in_ok-check_news.ensures.fine in
    let are_after = c.in_ok-paths.ensures in
    let distinct = rw c.deref.ensures.value at c.in_ok-after.ensures.distinct in
    let indexes = rw c.deref.ensures.value at c.in_ok-after.ensures.indexes in
    let moves = c.args.table.now in
    λ rule leave.
    let apart : StayApart c.args.entries.now moves rule = record {
      come = record { leave = leave; apart = c.in_ok-check_same_new.ensures.apart; free = free };
      after = c.in_ok-paths.paths.items;
      are_after = are_after;
      distinct = distinct;
    } in
    let known = IndexesAfter-apart c.args.entries.now moves rule c.in_ok-after.after apart indexes in
    record {
      apart = apart;
      below_no_file = (rw c.moves-moves.ensures.moves at c.in_ok-check_above.ensures.fine) moves known;
      below_no_unread = (rw c.moves-moves.ensures.moves at c.in_ok-check_above-2.ensures.fine) moves known;
    }
