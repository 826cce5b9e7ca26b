-- The moves of the table are those from the new paths to the names.
use Rattle.std.proofs.Common.{Global, String, Vec, map, string_bytes, sym, subst, ◌∙◌}
use Rattle.std.proofs.lemmas.Result.{IfOk-weaker}
use Rattle.relative_path_moves.specs.Moves.{AreApart, AreNamed, written_moves}
use Rattle.relmove_steps.specs.Directories.{AreTaken}
use Rattle.relmove_steps.proofs.actions.directories_made.Goals as goal

pub table_of_apart-requires-clause-named : goal.table_of_apart-requires-clause-named
table_of_apart-requires-clause-named c =
    subst AreNamed (sym c.in_ok-news.ensures) c.requires.named

pub table_of_apart-requires-clause-apart : goal.table_of_apart-requires-clause-apart
table_of_apart-requires-clause-apart c =
    subst AreApart (sym c.in_ok-news.ensures) c.requires.apart

pub returns : goal.returns
returns c =
    let moves = written_moves c.args.moves.now in
    let news_are = c.in_ok-news-2.ensures ∙ c.in_ok-news.ensures in
    IfOk-weaker c.directories_to_make.result _ _
    (λ (made : Vec (String Global) Global) are_taken. λ paths has. record {
      apart = c.requires.apart;
      taken = subst (λ table. AreTaken moves table paths (map string_bytes made.items)) news_are (are_taken paths has);
    }) c.directories_to_make.ensures
