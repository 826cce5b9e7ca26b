-- Several runs of actions, one after another.
use Rattle.std.proofs.Common.{List, [], ◌∷◌, ◌++◌}
use Rattle.relmove_trees.specs.FileTrees.{Tree}
use Rattle.relmove_trees.specs.TreeActions.{Action, LeadTo}

pub LeadTo-append : (actions more : List Action) (P : Tree → Type 0) (tree : Tree) → LeadTo actions (LeadTo more P) tree
    → LeadTo (actions ++ more) P tree
LeadTo-append [] more P tree leads = leads
LeadTo-append (action ∷ actions) more P tree leads =
    (leads.0, λ next acts. LeadTo-append actions more P next (leads.1 next acts))

-- what leads to P leads to what follows from P
pub LeadTo-weaker : (actions : List Action) (P Q : Tree → Type 0) → ((end : Tree) → P end → Q end) → (tree : Tree)
    → LeadTo actions P tree → LeadTo actions Q tree
LeadTo-weaker [] P Q more tree leads = more tree leads
LeadTo-weaker (action ∷ actions) P Q more tree leads =
    (leads.0, λ next acts. LeadTo-weaker actions P Q more next (leads.1 next acts))
