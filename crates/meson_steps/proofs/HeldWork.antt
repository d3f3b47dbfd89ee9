-- The work with a list that is held back in its tree, and once it is there.
use Rattle.meson_steps.proofs.Words.{◌≡◌, ◌≢◌, ℕ, ◌+◌, inl, inr, Bool, true, List, ◌∷◌, length, get_or, Some, refl, sym, ap, ap₂, ◌∙◌, subst, All, ◌≤◌, ◌||◌}
use Rattle.meson_steps.proofs.Words.{if◌then◌else◌, slice_set, cases_eq, eq-eqb, eqb_tells, set-set, IsDistinct, bytes_at, Splice, IsSpannedWithin, of_files}
use Rattle.meson_steps.proofs.Words.{wide, view, Limits, Parsed, HasFileName, Loaded, max_files, CallRef, changed_tree, saved_file, is_saved, AreDoable}
use Rattle.meson_steps.proofs.Words.{plain_trees, saturated, Step, StepsMake, AreKnown, HasReached, MayChangeList, Reached, so_far, spot_at, standing, stood}
use Rattle.meson_steps.proofs.Words.{HeldList, Saved, ListSpot, Work, IsHeldOf, IsReadAgain, IsSettled, settled, IsSavedToo, settled_tree, IsChanged}
use Rattle.meson_steps.proofs.Words.{list_again}
use Rattle.meson_syntax.specs.declared.tree.List as rust
use Rattle.meson_steps.specs.declared.journal.Saved.TheVariants as saved
use Rattle.meson_steps.proofs.HeldLists.{again_again, again_held, again_read, again_spot, first_again, first_held, first_read, held_spot}
use Rattle.meson_steps.proofs.ListChanged.{at_spot}
use Rattle.meson_steps.proofs.Restoring.{changed_is}

-- ---- what is saved

saved_here : (x : Saved) (more : List Saved) (k : ℕ) → saved_file x ≡ k → is_saved k (x ∷ more) ≡ true
saved_here x more k same = ap (λ b. b || is_saved k more) (eq-eqb (saved_file x) k same)

saved_other : (x : Saved) (more : List Saved) (k : ℕ) → k ≢ saved_file x → is_saved k (x ∷ more) ≡ is_saved k more
saved_other x more k other = elim (eqb_tells (saved_file x) k) [
  | inl both ↦ absurd (other (sym both.1))
  | inr both ↦ ap (λ b. b || is_saved k more) both.0
]

pub saved_first : (x : Saved) (more : List Saved) → IsSavedToo (saved_file x) more (x ∷ more)
saved_first x more = record { here = saved_here x more (saved_file x) refl; others = λ k other. saved_other x more k other }

pub saved_again : (x y : Saved) (more : List Saved) → saved_file y ≡ saved_file x → IsSavedToo (saved_file x) (x ∷ more) (y ∷ more)
saved_again x y more same = record {
  here = saved_here y more (saved_file x) same;
  others = λ k other. saved_other y more k (λ is. other (is ∙ same)) ∙ sym (saved_other x more k other);
}

saved_alike : (x : Saved) (before after : List Saved) → IsSavedToo (saved_file x) before after → (k : ℕ) → is_saved k after ≡ is_saved k (x ∷ before)
saved_alike x before after too k = elim (cases_eq k (saved_file x)) [
  | inl same ↦ ap (λ i. is_saved i after) same ∙ too.here ∙ sym (saved_here x before k (sym same))
  | inr other ↦ too.others k other ∙ sym (saved_other x before k other)
]

-- ---- a list that is in its tree

abbrev by_saved : Bool → Limits
by_saved saved = if saved then wide else of_files

module _ (old : Loaded) (before rest : List Step) (w new : Work) (h : HeldList) (r : HasReached old before rest (settled (Some h) w)) (s : IsSettled w h new) where
  loaded_is : so_far new ≡ stood (settled (Some h) w)
  loaded_is = ap₂ (λ fs ts. record { files = fs; parsed = ts }) s.files s.trees

  known_there : AreKnown new.saved.items w.files (settled (Some h) w).trees
  known_there = record {
    as_many = r.known.as_many;
    each = λ k d within.
        let bytes = bytes_at k w.files in
        subst (λ l. IsSpannedWithin l bytes (view bytes (get_or (settled (Some h) w).trees k d)))
        (ap by_saved (sym (saved_alike (saved.List h.list) w.saved.items new.saved.items s.are_saved k))) (r.known.each k d within);
  }

  pub settled_reached : Reached old before rest new
  settled_reached = record {
    made = record {
      bytes = r.made.bytes;
      are_trees = r.made.are_trees ∙ ap (λ l. Some (plain_trees l)) (sym loaded_is);
      are_done = subst (λ fs. StepsMake old.files before new.splices.items fs r.made.bytes) (sym s.files)
          (subst (λ ss. StepsMake old.files before ss w.files r.made.bytes) (sym s.splices) r.made.are_done);
      is_relexed = s.relexed ∙ r.made.is_relexed;
    };
    doable = subst (λ l. AreDoable rest (plain_trees l)) (sym loaded_is) r.doable;
    known = subst (λ fs. AreKnown new.saved.items fs new.trees.items) (sym s.files) (subst (AreKnown new.saved.items w.files) (sym s.trees) known_there);
    distinct = subst (λ fs. IsDistinct fs) (sym s.files) r.distinct;
    few = subst (λ fs. length fs ≤ max_files) (sym s.files) r.few;
    named = subst (λ fs. All HasFileName fs) (sym s.files) r.named;
  }

-- ---- the first step on a list

module _ (old new : Work) (place : CallRef) (splices : List Splice) (d : Parsed) (m : MayChangeList old.files place splices (get_or old.trees.items place.file d)) (s : ListSpot) (same : spot_at m.p ≡ s)
    (list : rust.List) (bytes : ℕ) (r : IsReadAgain old new place.file splices s (at_spot old.files place.file splices (spot_at m.p) s m.text same) list bytes)
    (trees : new.trees.items ≡ old.trees.items) (are_saved : new.saved.items ≡ old.saved.items) where
  abbrev t : Parsed
  t = get_or old.trees.items place.file d

  abbrev pub now_held : HeldList
  now_held = record { bracket = s.bracket; list = first_held old new place splices t m s same list bytes r }

  pub first_changed : IsChanged (standing old) (settled (Some now_held) new) place.file splices (list_again old.files new.files place t)
  first_changed = record {
    tree = settled_tree now_held.list t;
    are_files = r.are_files;
    are_splices = r.are_splices;
    are_trees = ap (changed_tree place.file (settled_tree now_held.list)) trees ∙ changed_is place.file (settled_tree now_held.list) old.trees.items d;
    are_saved = subst (λ l. IsSavedToo place.file old.saved.items (saved.List now_held.list ∷ l)) (sym are_saved) (saved_first (saved.List now_held.list) old.saved.items);
    is_read = first_read old new place splices t m s same list bytes r;
    is_relexed = r.is_relexed ∙ ap (λ n. saturated (old.relexed + n)) (sym (first_again old new place splices t m s same list bytes r));
  }

-- ---- a further step

module _ (old new : Work) (h : HeldList) (splices : List Splice) (d : Parsed) (of : IsHeldOf (get_or old.trees.items h.list.place.file d) (bytes_at h.list.place.file old.files) h)
    (m : MayChangeList old.files h.list.place splices (settled_tree h.list (get_or old.trees.items h.list.place.file d))) (list : rust.List) (bytes : ℕ)
    (r : IsReadAgain old new h.list.place.file splices (held_spot (get_or old.trees.items h.list.place.file d) (bytes_at h.list.place.file old.files) h of)
    (at_spot old.files h.list.place.file splices (spot_at m.p) (held_spot (get_or old.trees.items h.list.place.file d) (bytes_at h.list.place.file old.files) h of) m.text
    (again_spot old new h splices (get_or old.trees.items h.list.place.file d) of m)) list bytes)
    (trees : new.trees.items ≡ old.trees.items) (are_saved : new.saved.items ≡ old.saved.items) where
  abbrev file : ℕ
  file = h.list.place.file

  abbrev before : Parsed
  before = get_or old.trees.items file d

  abbrev pub then_held : HeldList
  then_held = record { bracket = h.bracket; list = again_held old new h splices before of m list bytes r }

  pub again_changed : IsChanged (settled (Some h) old) (settled (Some then_held) new) file splices (list_again old.files new.files h.list.place (settled_tree h.list before))
  again_changed = record {
    tree = settled_tree then_held.list before;
    are_files = r.are_files;
    are_splices = r.are_splices;
    are_trees =
        ap (changed_tree file (settled_tree then_held.list)) trees ∙ changed_is file (settled_tree then_held.list) old.trees.items d
        ∙ sym (ap (λ ts. slice_set ts file (settled_tree then_held.list before)) (changed_is file (settled_tree h.list) old.trees.items d)
        ∙ set-set old.trees.items file (settled_tree h.list before) (settled_tree then_held.list before));
    are_saved = subst (λ l. IsSavedToo file (saved.List h.list ∷ old.saved.items) (saved.List then_held.list ∷ l)) (sym are_saved)
        (saved_again (saved.List h.list) (saved.List then_held.list) old.saved.items refl);
    is_read = again_read old new h splices before of m list bytes r;
    is_relexed = r.is_relexed ∙ ap (λ n. saturated (old.relexed + n)) (sym (again_again old new h splices before of m list bytes r));
  }
