-- A list without elements, and one with some.
use Rattle.meson_variables.proofs.Words.{◌≡◌, ℕ, List, length, sym, ap, ◌∙◌, true, false, ◌==◌, Result, OnOk, on_ok_weaker, Span, list_view, Arg, Project}
use Rattle.meson_variables.proofs.Words.{list_is, Stand, empty, within, Gathered, all_marked, expanded, with_mark, listing_left}
use Rattle.meson_syntax.specs.declared.tree.List as rust
use Rattle.meson_variables.proofs.Gathers.{args_left, no_element, some_element}

module _ (p : Project Span) (left : ℕ) (source : List ℕ) (l : rust.List) (s : Stand) (g : Gathered) where
  of_list : Gathered
  of_list = expanded g (λ f. within s.place (listing_left p left (list_view source l) s f))

  of_args : List Arg → Gathered
  of_args xs = expanded g (λ f. within s.place (args_left p left source xs 0 s f))

  list_of_args : (xs : List Arg) → xs ≡ (rust.out-List l).items → of_args xs ≡ of_list
  unfolding of_list of_args
  list_of_args xs is =
      ap (λ ys. expanded g (λ f. within s.place (args_left p left source ys 0 s f))) is
      ∙ ap (λ m. expanded g (λ f. within s.place (listing_left p left m s f))) (sym (list_is source l))

  vacant : (xs : List Arg) → (length xs == 0) ≡ true → with_mark g (empty s.place) ≡ of_args xs
  unfolding of_args
  vacant xs none = sym (no_element p left source xs s.place s g none)

  filled : (xs : List Arg) → (length xs == 0) ≡ false → expanded g (args_left p left source xs 0 s) ≡ of_args xs
  unfolding of_args
  filled xs some = ap (λ e. record { tally = all_marked g.tally e.marks; followed = e.followed }) (sym (some_element p left source xs s.place s g.followed some))

  pub vacant_list : {T E : Type 0} (r : Result T E) (after : Gathered) (xs : List Arg) → (length xs == 0) ≡ true → xs ≡ (rust.out-List l).items → OnOk r (after ≡ with_mark g (empty s.place)) →
      OnOk r (after ≡ expanded g (λ f. within s.place (listing_left p left (list_view source l) s f)))
  unfolding of_list
  vacant_list r after xs none is ok = on_ok_weaker {P = after ≡ with_mark g (empty s.place)} {Q = after ≡ of_list} r (λ so. so ∙ vacant xs none ∙ list_of_args xs is) ok

  pub filled_list : {T E : Type 0} (r : Result T E) (after : Gathered) (xs : List Arg) → (length xs == 0) ≡ false → xs ≡ (rust.out-List l).items → OnOk r (after ≡ expanded g (args_left p left source xs 0 s)) →
      OnOk r (after ≡ expanded g (λ f. within s.place (listing_left p left (list_view source l) s f)))
  unfolding of_list
  filled_list r after xs some is ok = on_ok_weaker {P = after ≡ expanded g (args_left p left source xs 0 s)} {Q = after ≡ of_list} r (λ so. so ∙ filled xs some ∙ list_of_args xs is) ok
