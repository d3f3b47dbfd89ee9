-- The list that an edit names, in the tree with spans and in the tree without.
use Rattle.meson_edit.proofs.Words.{◌≡◌, ℕ, suc, List, ◌∷◌, ◌++◌, take, drop, Some, refl, sym, ap, ◌∙◌, option_map, option_and_then, Span, ListAt, list_at, nth}
use Rattle.meson_edit.proofs.Words.{value_of, Nowhere, Plain, Expression, Listing, Argument, plain, named, pair, File, erase, erase_expression, erase_argument}
use Rattle.meson_edit.proofs.Words.{erase_listing, some-injective, map-some, and-then-some, Edit, elements, with_elements, with_value, edited_elements}
use Rattle.meson_edit.proofs.Words.{edited_list, exchanged, ListFront, list_front, erase_list_front}
use Rattle.meson_edit.proofs.paths.Erased.{lists-erase}

-- The list is `p` in the tree with spans and `q` in the one without, and `list` are its elements after the edit.
pub record Found (f : File Span) (e : Edit) (path : List ℕ) (t : Plain) : Type 0 where
  pub p : ListAt Span
  pub q : ListAt Nowhere
  pub is_p : list_at f path ≡ Some p
  pub is_q : list_at (erase f) path ≡ Some q
  pub same_list : q.list ≡ erase_listing p.list
  pub same_bracket : q.bracket ≡ p.bracket
  pub list : List (Argument Nowhere)
  pub is_list : edited_elements e (elements (erase_listing p.list)) ≡ Some list
  pub is_t : q.back (with_elements (erase_listing p.list) list) ≡ t

-- the list after the edit
abbrev pub now_list : (f : File Span) (e : Edit) (path : List ℕ) (t : Plain) → Found f e path t → Listing Nowhere
now_list f e path t o = with_elements (erase_listing o.p.list) o.list

pub found : (f : File Span) (e : Edit) (path : List ℕ) (t : Plain) → edited_list e path (erase f) ≡ Some t → Found f e path t
found f e path t is =
    let a = and-then-some (λ (q : ListAt Nowhere). option_map (λ list. q.back (with_elements q.list list)) (edited_elements e (elements q.list))) (list_at (erase f) path) t is in
    let q = a.0 in
    let b = map-some (λ list. q.back (with_elements q.list list)) (edited_elements e (elements q.list)) t a.2 in
    let both = sym (lists-erase f path) ∙ ap (option_map list_front) a.1 in
    let c = map-some (λ (p : ListAt Span). erase_list_front (list_front p)) (list_at f path) (list_front q) both in
    let same : q.list ≡ erase_listing c.0.list = ap (λ (u : ListFront Nowhere). u.list) (sym c.2) in
    record {
      p = c.0;
      q = q;
      is_p = c.1;
      is_q = a.1;
      same_list = same;
      same_bracket = ap (λ (u : ListFront Nowhere). u.bracket) (sym c.2);
      list = b.0;
      is_list = ap (λ l. edited_elements e (elements l)) (sym same) ∙ b.1;
      is_t = ap (λ l. q.back (with_elements l b.0)) (sym same) ∙ b.2;
    }

-- ---- elements

-- an element whose value becomes another one
pub record Valued (change : Expression Nowhere → Expression Nowhere) (n : ℕ) (list now : List (Argument Nowhere)) : Type 0 where
  pub it : Argument Nowhere
  pub is_it : nth list n ≡ Some it
  pub value : Expression Nowhere
  pub is_value : value_of it ≡ Some value
  pub is_now : take n list ++ with_value (change value) it ∷ drop (suc n) list ≡ now

pub valued : (change : Expression Nowhere → Expression Nowhere) (n : ℕ) (list now : List (Argument Nowhere)) → option_and_then (exchanged n change list) (nth list n) ≡ Some now → Valued change n list now
valued change n list now is =
    let a = and-then-some (exchanged n change list) (nth list n) now is in
    let b = map-some (λ v. take n list ++ with_value (change v) a.0 ∷ drop (suc n) list) (value_of a.0) now a.2 in
    record { it = a.0; is_it = a.1; value = b.0; is_value = b.1; is_now = b.2 }

-- an element has a value where it has one without its spans
pub value-there : (a : Argument Span) (v : Expression Nowhere) → value_of (erase_argument a) ≡ Some v → (w : Expression Span) × (value_of a ≡ Some w) × (erase_expression w ≡ v)
value-there (plain e) v h = (e, refl, some-injective _ _ h)
value-there (named s x e) v h = (e, refl, some-injective _ _ h)
value-there (pair s e f) v h = (f, refl, some-injective _ _ h)
