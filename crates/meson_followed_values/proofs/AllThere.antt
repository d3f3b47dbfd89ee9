-- What is changed for a slot is a value that an assignment assigns, and several such values are apart.
use Rattle.std.proofs.Common.{◌≡◌, true, false, List, [], ◌∷◌, Some, None, Ok, refl, sym, ap, ◌∙◌, subst, inl, inr}
use Rattle.std.specs.Prelude.{Bool, ◌⊎◌, bytes_eq, if◌then◌else◌}
use Rattle.meson_lex.specs.declared.kinds.Span.{Span}
use Rattle.meson_syntax.proofs.paths.Every.{Every}
use Rattle.meson_calls.specs.declared.call.CallRef.{CallRef}
use Rattle.meson_calls.specs.AllParts.{address}
use Rattle.meson_calls.specs.Loading.{Loaded, project}
use Rattle.meson_calls.specs.Notes.{Note, a_call, an_assignment, a_loop, notes}
use Rattle.meson_calls.specs.Project.{Placed, child, placed}
use Rattle.meson_following.specs.Makers.{Maker, is_same_place}
use Rattle.meson_steps.specs.declared.given.Given.{Given}
use Rattle.meson_places.specs.declared.slots.Slot.{Slot}
use Rattle.meson_places.proofs.AllPlaced.{AllThere, IsAssignment, NotesApart, Value, apart_two, note_value, notes_apart, values_apart}
use Rattle.meson_places.proofs.Apart.{Pairs, apart_turned}
use Rattle.meson_places.proofs.AssignedPlaced.{PlacesApart}
use Rattle.meson_places.proofs.Found.{Among, given_by}
use Rattle.meson_followed_values.specs.declared.variables.Variable.{Variable}
use Rattle.meson_followed_values.specs.Followed.{losing}
use Rattle.meson_followed_values.specs.Makers.{assigned_value, makers_of}
use Rattle.meson_followed_values.proofs.AssignedMakers.{maker_among}
use Rattle.meson_followed_values.proofs.EachOnce.{Differ}
use Rattle.meson_followed_values.proofs.Owned.{lost_in, losing_differ, maker_is, maker_said}
use Rattle.meson_followed_values.proofs.Places.{every_of, itself_same}

module _ (l : Loaded) where
  -- the value of an assignment
  pub record Assigned (c : CallRef) : Type 0 where
    pub note : Placed (Note Span)
    pub is_among : Among (notes (project l)) note
    pub is_assignment : IsAssignment l note.it
    pub is_place : child note.place 0 ≡ c

  assigned_note : (v : Variable) (n : Placed (Note Span)) (c : CallRef) → assigned_value v.name n ≡ Some c → IsAssignment l n.it × (child n.place 0 ≡ c)
  assigned_note v n c is = go n.it refl
    where
      Gives : Note Span → Type 0
      Gives k = assigned_value v.name (placed n.place k) ≡ Some c

      go : (k : Note Span) → n.it ≡ k → IsAssignment l n.it × (child n.place 0 ≡ c)
      go (a_call f) same = let none : None ≡ Some c = subst Gives same is in absurd (let no : ⊥ = cc in no)
      go (a_loop xs) same = let none : None ≡ Some c = subst Gives same is in absurd (let no : ⊥ = cc in no)
      go (an_assignment y sets e) same = test (bytes_eq y v.name) (subst Gives same is)
        where
          test : (b : Bool) → (if b then Some (child n.place 0) else None) ≡ Some c → IsAssignment l n.it × (child n.place 0 ≡ c)
          test true h = (subst (IsAssignment l) (sym same) tt, let equal : child n.place 0 ≡ c = cc in equal)
          test false h = absurd (let no : ⊥ = cc in no)

  pub maker_assigned : (v : Variable) (m : Maker Span) → Among (makers_of (project l) v) m → Assigned m.value.place
  maker_assigned v m among =
      let k = maker_is (project l) v m among in
      let g = given_by (assigned_value v.name) (notes (project l)) m.value.place (maker_among (project l) v.name v.read_at k.known k.is_known m k.is_among) in
      let a = assigned_note v g.of m.value.place g.gives in
      record { note = g.of; is_among = g.is_among; is_assignment = a.0; is_place = a.1 }

  pub value_there : (c : CallRef) → Assigned c → Value l c
  value_there c a = subst (Value l) a.is_place (note_value l a.note a.is_among a.is_assignment)

  two_apart : (c d : CallRef) → Assigned c → Assigned d → Differ c d → PlacesApart c d
  two_apart c d a b differ = go (apart_two l (NotesApart l) (notes (project l)) a.note b.note (notes_apart l) a.is_among b.is_among)
    where
      at_places : PlacesApart (child a.note.place 0) (child b.note.place 0) → PlacesApart c d
      at_places apart = subst (λ k. PlacesApart k d) a.is_place (subst (PlacesApart (child a.note.place 0)) b.is_place apart)

      go : (a.note ≡ b.note) ⊎ (NotesApart l a.note b.note ⊎ NotesApart l b.note a.note) → PlacesApart c d
      go (inl same) =
          let equal : c ≡ d = sym a.is_place ∙ ap (λ (n : Placed (Note Span)). child n.place 0) same ∙ b.is_place in
          let both : true ≡ false = sym (itself_same d) ∙ sym (ap (λ k. is_same_place k d) equal) ∙ differ in
          absurd (let no : ⊥ = cc in no)
      go (inr (inl apart)) = at_places (values_apart l a.note.place b.note.place (apart a.is_assignment b.is_assignment))
      go (inr (inr apart)) =
          at_places (values_apart l a.note.place b.note.place (apart_turned (address b.note.place) (address a.note.place) (apart b.is_assignment a.is_assignment)))

  one_apart : (c : CallRef) → Assigned c → (ds : List CallRef) → Every Assigned ds → Every (Differ c) ds → Every (PlacesApart c) ds
  one_apart c a [] all differ = tt
  one_apart c a (d ∷ ds) all differ = (two_apart c d a all.0 differ.0, one_apart c a ds all.1 differ.1)

  all_apart : (cs : List CallRef) → Every Assigned cs → Pairs Differ cs → Pairs PlacesApart cs
  all_apart [] all differ = tt
  all_apart (c ∷ cs) all differ = (one_apart c all.0 cs all.1 differ.0, all_apart cs all.1 differ.1)

  values_of : (cs : List CallRef) → Every Assigned cs → Every (Value l) cs
  values_of [] all = tt
  values_of (c ∷ cs) all = (value_there c all.0, values_of cs all.1)

  -- ---- what is lost

  module _ (gs : List Given) (s : Slot) (cs : List CallRef) (is : losing l.files (project l) gs s ≡ Ok cs) where
    lost_assigned : (d : CallRef) → Among cs d → Assigned d
    lost_assigned d m =
        let o = (lost_in l.files (project l) gs s cs is d m).2 in
        let n = maker_said l.files (project l) gs o.of d o.is_said in
        subst Assigned n.2 (maker_assigned o.of n.0 n.1)

    pub lost_there : AllThere l cs
    lost_there =
        let all = every_of Assigned cs lost_assigned in
        record { values = values_of cs all; apart = all_apart cs all (losing_differ l.files (project l) gs s cs is) }
