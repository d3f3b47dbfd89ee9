-- What notes say of some variables, of most files without those that set none of them.
use Rattle.meson_variables.proofs.Words.{◌≡◌, ℕ, List, [], ◌++◌, Bor, false, ap, ◌||◌, true, option_map, File, Parsed, chosen, named_trees, views, notes}
use Rattle.meson_variables.proofs.Words.{placed, AreSetters, is_among, Notes, any_gathers, none_passes, chosen_gathers, none_chosen, setters_read}
use Rattle.meson_variables.proofs.Words.{assigned_notes, is_set_by, note_assigned, note_sets, has_unknown, is_unknown_in}
use Rattle.meson_variables.proofs.NothingSet.{assigned_none, sets_none, unknown_none}

module _ (names : List (Bor (List ℕ))) (files : List File) (parsed : List Parsed) (ns : Notes) (are : AreSetters names 0 files parsed ns) where
  pub same_set : (x : List ℕ) → is_set_by x ns ≡ is_set_by x (notes (named_trees files (views files parsed)))
  same_set x =
      setters_read names (is_set_by x) (λ a b. a || b) false (any_gathers (λ m. note_sets x m.it))
      (λ n none is. none_passes (λ k. note_sets x k.it) n (sets_none names x n.it none is))
      0 files parsed ns are

  pub same_assigned : (x : List ℕ) → is_among names x ≡ true → assigned_notes x ns ≡ assigned_notes x (notes (named_trees files (views files parsed)))
  same_assigned x among =
      setters_read names (assigned_notes x) (λ a b. a ++ b) [] (chosen_gathers (chosen (note_assigned x)))
      (λ n none is. none_chosen (chosen (note_assigned x)) n (ap (option_map (placed n.place)) (assigned_none names x among n.it is)))
      0 files parsed ns are

  pub same_unknown : (fs : List File) → has_unknown fs ns ≡ has_unknown fs (notes (named_trees files (views files parsed)))
  same_unknown fs =
      setters_read names (has_unknown fs) (λ a b. a || b) false (any_gathers (λ m. is_unknown_in fs m.place m.it))
      (λ n none is. none_passes (λ k. is_unknown_in fs k.place k.it) n (unknown_none fs n.place n.it none))
      0 files parsed ns are
