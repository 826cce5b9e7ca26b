-- Each turn takes the last component off.
use Rattle.std.proofs.Common.{[], ◌∷◌, sym, append-nil}
use Rattle.std.proofs.lemmas.List.Elements.{All-nil, All-push}
use Rattle.relative_path_places.specs.Views.{view_components}
use Rattle.relmove_steps.specs.Directories.{HasDirectory}
use Rattle.relmove_steps.proofs.DirectoriesLemmas.{HasDirectory-here, HaveFrontsFrom-start, HaveFrontsFrom-next, HaveFrontsFrom-end, split-directory}
use Rattle.relmove_steps.proofs.directories.directories_above.Goals as goal

pub loop-directory-init : goal.loop-directory-init
loop-directory-init c =
    let cs = view_components c.args.path in
    let none = c.new-directories.ensures.items in
    record {
      above = rw none (All-nil (λ directory. HasDirectory cs (view_components directory)));
      rest = [];
      split = sym (append-nil cs);
      all = rw none (HaveFrontsFrom-start cs);
    }

pub loop-directory-preserved : goal.loop-directory-preserved
loop-directory-preserved c =
    let (some, ends) = c.in-Some.ensures in
    let (last, is) = ends in
    let cs = view_components c.args.path in
    let left = view_components c.loop-directory.left in
    let directory = view_components c.in-Some.directory in
    let so_far = c.loop-directory.directories.items in
    let rest = c.loop-directory.invariant.rest in
    let split = c.loop-directory.invariant.split in
    record {
      above = rw c.in_ok-push.ensures.items
          (All-push (λ directory. HasDirectory cs (view_components directory)) so_far c.in-Some.directory
          c.loop-directory.invariant.above (HasDirectory-here cs left directory rest last split is some));
      rest = last ∷ rest;
      split = split-directory cs left directory rest last split is;
      all = rw c.in_ok-push.ensures.items
          (HaveFrontsFrom-next cs left rest last so_far c.in-Some.directory split is c.loop-directory.invariant.all);
    }

pub returns-clause-all : goal.returns-clause-all
returns-clause-all c = λ front has.
    HaveFrontsFrom-end (view_components c.args.path) (view_components c.loop-directory.left)
    c.loop-directory.directories.items front c.in_default.ensures c.loop-directory.invariant.all has
