-- The parts of all files of a project, each at its place, and what is chosen of them.
use Rattle.meson_calls.proofs.Words.{cons_option, option_map, ◌≡◌, ℕ, suc, ◌+◌, List, [], ◌∷◌, Option, Some, None, refl, ◌∙◌, arith, Span, a_block, block_of}
use Rattle.meson_calls.proofs.Words.{node_at, Every, every-append, all_chosen, Part, parts_from, parts_of_file, Project, BuildFile, Placed, placed, nth_file}
use Rattle.meson_calls.proofs.Reached.{Each, file_each}
use Rattle.meson_calls.proofs.nodes.PartsBelow.{any}

pub every_chosen : {X Y : Type 0} (P : Placed X → Type 0) (Q : Placed Y → Type 0) (choose : X → Option Y) → ((q : Placed X) (y : Y) → P q → choose q.it ≡ Some y → Q (placed q.place y))
    → (qs : List (Placed X)) → Every P qs → Every Q (all_chosen choose qs)
every_chosen P Q choose step [] all = tt
every_chosen {X} {Y} P Q choose step (q ∷ qs) all = go (choose q.it) (λ y is. step q y all.0 is) (every_chosen P Q choose step qs all.1)
  where
    go : (o : Option Y) → ((y : Y) → o ≡ Some y → Q (placed q.place y)) → Every Q (all_chosen choose qs) → Every Q (cons_option (option_map (placed q.place) o) (all_chosen choose qs))
    go None f others = others
    go (Some y) f others = (f y refl, others)

-- ---- parts of all files, of which the first has the number n

pub record InProject (n : ℕ) (p : Project Span) (q : Placed (Part Span)) : Type 0 where
  pub number : ℕ
  pub file : BuildFile Span
  pub is_number : q.place.file ≡ n + number
  pub is_file : nth_file p number ≡ Some file
  pub is_node : node_at (a_block (block_of file.tree)) q.place.path.steps ≡ Some (any q.it)

first_file : (n : ℕ) (f : BuildFile Span) (files : Project Span) (qs : List (Placed (Part Span))) → Each n (a_block (block_of f.tree)) qs → Every (InProject n (f ∷ files)) qs
first_file n f files [] all = tt
first_file n f files (q ∷ qs) all =
    let e : n ≡ n + 0 = omega arith in (record { number = 0; file = f; is_number = all.0.0 ∙ e; is_file = refl; is_node = all.0.1 }, first_file n f files qs all.1)

other_files : (n : ℕ) (f : BuildFile Span) (files : Project Span) (qs : List (Placed (Part Span))) → Every (InProject (n + 1) files) qs → Every (InProject n (f ∷ files)) qs
other_files n f files [] all = tt
other_files n f files (q ∷ qs) all =
    let i = all.0 in
    let e : n + 1 + i.number ≡ n + suc i.number = omega arith in
    (record { number = suc i.number; file = i.file; is_number = i.is_number ∙ e; is_file = i.is_file; is_node = i.is_node }, other_files n f files qs all.1)

pub every_part : (n : ℕ) (p : Project Span) → Every (InProject n p) (parts_from n p)
every_part n [] = tt
every_part n (f ∷ files) = every-append (InProject n (f ∷ files)) (parts_of_file n f.tree) (parts_from (n + 1) files) (first_file n f files _ (file_each n f.tree)) (other_files n f files _ (every_part (n + 1) files))
