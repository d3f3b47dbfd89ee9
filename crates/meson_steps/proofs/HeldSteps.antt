-- A further step on a list that is held back.
use Rattle.meson_steps.proofs.Words.{◌≡◌, ℕ, ◌<◌, true, List, [], ◌∷◌, ◌++◌, length, get_or, Option, Some, None, sym, ap, ◌∙◌, subst, IfOk, Result, option_map}
use Rattle.meson_steps.proofs.Words.{bytes_at, File, Splice, Lexeme, IsItemList, Span, layout_of, IsReadyIn, Primitive, ListAt, list_span, list_view, view}
use Rattle.meson_steps.proofs.Words.{Parsed, FoundNew, Loaded, bare, Step, effective, HasReached, MayChangeList, Standing, HeldList, ListSpot, ListEdit}
use Rattle.meson_steps.proofs.Words.{ListStep, Work, IsHeld, settled, settled_tree, AreLaid, edits_list, IsChanged, list_again, looked_at, placed_edit}
use Rattle.meson_steps.proofs.Words.{placed_in}
use Rattle.meson_syntax.specs.declared.tree.List as rust
use Rattle.meson_steps.proofs.HeldLists.{held_found, held_spot_is}
use Rattle.meson_steps.proofs.ListTaken.{no_tree}
use Rattle.meson_steps.proofs.PlacedEdits.{placed_at}
use Rattle.meson_steps.proofs.Restoring.{changed_there}
use Rattle.meson_steps.proofs.SameRead.{same_read}
use Rattle.meson_steps.proofs.StepTaken.{code_are_laid, code_in_files, code_laid, code_may_be_laid, file_is, step_may_list, step_new_list, step_same}

module _ (old : Loaded) (w : Work) (h : HeldList) (held : IsHeld w h) (edit : ListEdit) (of_list : edits_list edit ≡ true)
    (before rest : List Step) (s : Step) (is : bare s ≡ Some (record { list = h.list.place; edit = edit })) (r : HasReached old before (s ∷ rest) (settled (Some h) w)) where
  abbrev now : Standing
  now = settled (Some h) w

  abbrev step : ListStep
  step = record { list = h.list.place; edit = edit }

  abbrev file : ℕ
  file = h.list.place.file

  abbrev path : List ℕ
  path = h.list.place.path.steps

  -- the list's tree, with the list
  abbrev t : Parsed
  t = settled_tree h.list (get_or w.trees.items file no_tree)

  there : t ≡ get_or now.trees file t
  there = sym (changed_there file (settled_tree h.list) w.trees.items t held.there ∙ ap (settled_tree h.list) (same_read w.trees.items file t no_tree held.there))

  pub held_in_files : file < length w.files
  held_in_files = code_in_files old now step before rest s is r

  abbrev bytes : List ℕ
  bytes = bytes_at file w.files

  found : FoundNew (held.is no_tree).of.takes.p bytes (view bytes t) path (length (held.is no_tree).of.takes.front) (length (held.is no_tree).of.takes.now) h.list.list
  found = held_found (get_or w.trees.items file no_tree) bytes h (held.is no_tree)

  same_file : file ≡ s.file
  same_file = file_is old now step before rest s is r

  abbrev IsPlaced : Option Primitive → Type 0
  IsPlaced o = (source : List ℕ) → o ≡ placed_in (list_view source h.list.list) edit

  placed : (o : Option Primitive) → IsPlaced o → o ≡ placed_edit (view (bytes_at s.file w.files) t) path edit
  placed o is_o =
      subst (λ i. o ≡ placed_edit (view (bytes_at i w.files) t) path edit) same_file
      (is_o bytes ∙ ap (λ l. placed_in l edit) (sym found.list) ∙ sym (placed_at (view bytes t) path found.there edit of_list found.is_there))

  looked : Some (rust.out-List h.list.list).span ≡ looked_at (view (bytes_at s.file w.files) t) path true
  unfolding found
  looked =
      subst (λ i. Some (rust.out-List h.list.list).span ≡ looked_at (view (bytes_at i w.files) t) path true) same_file
      (ap Some (sym (ap (λ (x : ListSpot). x.span) (held_spot_is (get_or w.trees.items file no_tree) bytes h (held.is no_tree))))
      ∙ sym (ap (option_map (λ (q : ListAt Span). list_span q.list)) found.is_there))

  pub held_laid : (o : Option Primitive) → IsPlaced o → o ≡ None → ⊥
  held_laid o is_o none = code_laid old now step before rest s is r t there o (placed o is_o) none

  module _ (p : Primitive) (is_p : IsPlaced (Some p)) (bs : List ℕ) (is_bytes : bs ≡ bytes) where
    pub held_ready : IsReadyIn bs (rust.out-List h.list.list).span p
    held_ready = code_may_be_laid old now step before rest s is r t there p (placed (Some p) is_p) bs is_bytes true (sym of_list) (Some (rust.out-List h.list.list).span) looked

    -- the layout, in the tree with the list
    pub held_are_laid : {V E : Type 0} (nm : List ℕ) (d : File) → nm ≡ (get_or w.files file d).name → (e : Parsed) (r : Result V E) (items_of : V → List Splice)
        → ((list : List Lexeme) → IsItemList bs list → IfOk r (λ v. items_of v ≡ effective (layout_of nm list p)))
        → IfOk r (λ v. AreLaid w.files (get_or now.trees file e) step (items_of v))
    held_are_laid = code_are_laid old now step before rest s is r t there p (placed (Some p) is_p) bs is_bytes

  module _ (splices : List Splice) (l : AreLaid w.files (get_or now.trees file no_tree) step splices) where
    pub held_same : splices ≡ [] → HasReached old (before ++ s ∷ []) rest now
    held_same empty = step_same old now step before rest s is r no_tree splices l empty

    pub held_may : (e : Parsed) → MayChangeList w.files h.list.place splices (settled_tree h.list (get_or w.trees.items file e))
    held_may e =
        subst (MayChangeList w.files h.list.place splices) (changed_there file (settled_tree h.list) w.trees.items e held.there)
        (step_may_list old now step before rest s is r no_tree splices l of_list e)

    pub held_new : (splices ≡ [] → ⊥) → (new : Standing) → IsChanged now new file splices (list_again w.files new.files h.list.place t) → HasReached old (before ++ s ∷ []) rest new
    held_new some new changed =
        step_new_list old now step before rest s is r no_tree splices l some new of_list
        (subst (λ u. IsChanged now new file splices (list_again w.files new.files h.list.place u)) (sym (changed_there file (settled_tree h.list) w.trees.items no_tree held.there)) changed)
