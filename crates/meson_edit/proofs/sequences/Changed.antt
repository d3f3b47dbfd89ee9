-- The list that an edit names in a tree without spans, and its elements after the edit.
use Rattle.meson_edit.proofs.Words.{option_map, ◌≡◌, ℕ, List, Some, ListAt, list_at, Nowhere, Plain, Argument, map-some, and-then-some, Edit, elements}
use Rattle.meson_edit.proofs.Words.{with_elements, edited_elements, edited_list}

pub record Changed (e : Edit) (path : List ℕ) (t now : Plain) : Type 0 where
  pub place : ListAt Nowhere
  pub is_place : list_at t path ≡ Some place
  pub list : List (Argument Nowhere)
  pub is_list : edited_elements e (elements place.list) ≡ Some list
  pub is_now : place.back (with_elements place.list list) ≡ now

pub changed : (e : Edit) (path : List ℕ) (t now : Plain) → edited_list e path t ≡ Some now → Changed e path t now
changed e path t now is =
    let a = and-then-some (λ (q : ListAt Nowhere). option_map (λ list. q.back (with_elements q.list list)) (edited_elements e (elements q.list))) (list_at t path) now is in
    let q = a.0 in
    let b = map-some (λ list. q.back (with_elements q.list list)) (edited_elements e (elements q.list)) now a.2 in
    record { place = q; is_place = a.1; list = b.0; is_list = b.1; is_now = b.2 }
