-- The variables of the files and trees of a project with its notes.
use Rattle.meson_variables.proofs.Words.{◌≡◌, ap₂, named_trees, views, project_in, project_of, Variables}
use Rattle.meson_calls.specs.declared.noted.Noted.{Noted}

-- ---- the variables of its files and trees

module _ (v : Variables) (n : Noted) (files : v.files.now ≡ n.files.now) (trees : v.trees.now ≡ n.trees.now) where
  pub same_project : project_of v ≡ project_in n
  same_project = ap₂ (λ fs ts. named_trees fs (views fs ts)) files trees
