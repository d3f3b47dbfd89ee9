-- Parts that are visited one after another.
use Rattle.meson_calls.proofs.Words.{Bor, false, ◌||◌, if◌then◌else◌, Bool, true, ◌≡◌, ℕ, ◌+◌, ◌<◌, ◌≤◌, List, [], ◌∷◌, ◌++◌, length, drop, get_or, Option}
use Rattle.meson_calls.proofs.Words.{Some, refl, sym, ap, ap₂, ◌∙◌, arith, append_assoc, append-nil, at_drop_more, at_drop_all, filter_map-append, fold-append}
use Rattle.meson_calls.proofs.Words.{Span, Expression, call, chosen, Note, note_of, noted, Part, parts_of_expression, Placed, placed, AreAssignments}
use Rattle.meson_calls.proofs.Words.{any_sets_by_call, assignment_at, assignments_in, has_loop, is_loop, KeptParts, notes_kept, setters_kept, assignments_kept}
use Rattle.meson_calls.proofs.Words.{reads_kept, kept_so_far, with_part, with_parts, notes_of_kept, reads_of_kept, read_at, read_in, CallRef, KeptAssignment}
use Rattle.meson_calls.specs.Parts.{an_expression}
use Rattle.meson_calls.specs.Walks.{list_opened, lists_kept, lists_of_kept, lists_opened}
use Rattle.meson_calls.specs.declared.keeper.Opened.{Opened}
use Rattle.meson_calls.proofs.SettersApart.{setters_append, setters_of, stays_within}

pub two_parts : (before middle after : KeptParts) (a b : List (Placed (Part Span))) → middle ≡ with_parts before a → after ≡ with_parts middle b → after ≡ with_parts before (a ++ b)
two_parts before middle after a b first last = last ∙ ap (λ m. with_parts m b) first ∙ sym (fold-append with_part before a b)

-- The parts of a list from its n-th child on are those of its first element, which has so many children, and then those of the others.
module _ {X : Type 0} (parts : ℕ → List X → List (Placed (Part Span))) (part : ℕ → X → List (Placed (Part Span))) (size : X → ℕ)
    (more : (n : ℕ) (x : X) (xs : List X) → parts n (x ∷ xs) ≡ part n x ++ parts (n + size x) xs) where
  pub turn : (xs : List X) (i : ℕ) (d : X) (n k : ℕ) (before after whole : KeptParts) (here : List (Placed (Part Span))) → i < length xs →
      after ≡ with_parts before here → here ≡ part n (get_or xs i d) → k ≡ n + size (get_or xs i d) →
      with_parts before (parts n (drop i xs)) ≡ whole → with_parts after (parts k (drop (i + 1) xs)) ≡ whole
  turn xs i d n k before after whole here within first is_here next so_far =
      let others : ℕ → List (Placed (Part Span)) = λ m. parts m (drop (i + 1) xs) in
      let x = get_or xs i d in
      ap (λ a. with_parts a (others k)) first
      ∙ ap (λ h. with_parts (with_parts before h) (others k)) is_here
      ∙ ap (λ m. with_parts (with_parts before (part n x)) (others m)) next
      ∙ sym (fold-append with_part before (part n x) (others (n + size x)))
      ∙ ap (with_parts before) (sym (at_drop_more (parts n) xs i d within ∙ more n x (drop (i + 1) xs)))
      ∙ so_far

-- so do their children count
module _ {X : Type 0} (count : List X → ℕ) (size : X → ℕ) (more : (x : X) (xs : List X) → count (x ∷ xs) ≡ size x + count xs) where
  pub count_turn : (xs : List X) (i : ℕ) (d : X) (n k whole : ℕ) → i < length xs → k ≡ n + size (get_or xs i d) → n + count (drop i xs) ≡ whole → k + count (drop (i + 1) xs) ≡ whole
  count_turn xs i d n k whole within next so_far =
      let one = at_drop_more count xs i d within ∙ more (get_or xs i d) (drop (i + 1) xs) in
      omega (arith, one, next, so_far)

  pub count_ended : (xs : List X) (i n whole : ℕ) → count [] ≡ 0 → length xs ≤ i → n + count (drop i xs) ≡ whole → n ≡ whole
  count_ended xs i n whole none past so_far =
      let left = at_drop_all count xs i past ∙ none in
      omega (arith, left, so_far)

-- ---- what is kept in the end

notes_come : (ns : List (Placed (Note Span))) (ps : List (Placed (Part Span))) → with_parts (notes_kept ns) ps ≡ notes_kept (ns ++ noted ps)
notes_come ns [] = ap notes_kept (sym (append-nil ns))
notes_come ns (q ∷ ps) =
    notes_come (ns ++ noted (q ∷ [])) ps
    ∙ ap notes_kept (append_assoc ns (noted (q ∷ [])) (noted ps) ∙ ap (λ l. ns ++ l) (sym (filter_map-append (chosen note_of) (q ∷ []) ps)))

pub notes_stay : (ns : List (Placed (Note Span))) (ps : List (Placed (Part Span))) → noted ps ≡ [] → notes_kept ns ≡ with_parts (notes_kept ns) ps
notes_stay ns ps none = sym (notes_come ns ps ∙ ap (λ l. notes_kept (ns ++ l)) none ∙ ap notes_kept (append-nil ns))

reads_come : (x : List ℕ) (cs : List CallRef) (ps : List (Placed (Part Span))) → with_parts (reads_kept x cs) ps ≡ reads_kept x (cs ++ read_in x ps)
reads_come x cs [] = ap (reads_kept x) (sym (append-nil cs))
reads_come x cs (q ∷ ps) =
    reads_come x (cs ++ read_in x (q ∷ [])) ps
    ∙ ap (reads_kept x) (append_assoc cs (read_in x (q ∷ [])) (read_in x ps) ∙ ap (λ l. cs ++ l) (sym (filter_map-append (read_at x) (q ∷ []) ps)))

lists_come : (ls : List Opened) (ps : List (Placed (Part Span))) → with_parts (lists_kept ls) ps ≡ lists_kept (ls ++ lists_opened ps)
lists_come ls [] = ap lists_kept (sym (append-nil ls))
lists_come ls (q ∷ ps) =
    lists_come (ls ++ lists_opened (q ∷ [])) ps
    ∙ ap lists_kept (append_assoc ls (lists_opened (q ∷ [])) (lists_opened ps) ∙ ap (λ l. ls ++ l) (sym (filter_map-append list_opened (q ∷ []) ps)))

setters_come : (names : List (Bor (List ℕ))) (ns : List (Placed (Note Span))) (ps : List (Placed (Part Span))) → with_parts (setters_kept names ns) ps ≡ setters_kept names (ns ++ setters_of names ps)
setters_come names ns [] = ap (setters_kept names) (sym (append-nil ns))
setters_come names ns (q ∷ ps) =
    setters_come names (ns ++ setters_of names (q ∷ [])) ps
    ∙ ap (setters_kept names) (append_assoc ns (setters_of names (q ∷ [])) (setters_of names ps) ∙ ap (λ l. ns ++ l) (sym (setters_append names (q ∷ []) ps)))

pub setters_stay : (names : List (Bor (List ℕ))) (ns : List (Placed (Note Span))) (p : CallRef) (e : Expression Span) → setters_kept names ns ≡ with_parts (setters_kept names ns) (parts_of_expression p e)
setters_stay names ns p e =
    sym (stays_within (setters_kept names ns) alone p e)
  where
    alone : (p : CallRef) (e : Expression Span) → with_part (setters_kept names ns) (placed p (an_expression e)) ≡ setters_kept names ns
    alone p (call s x l) = ap (setters_kept names) (append-nil ns)
    alone p e = ap (setters_kept names) (append-nil ns)

-- assignments, and whether there is a loop
pub assignments_stay : (loops : Bool) (ks : List KeptAssignment) (p : CallRef) (e : Expression Span) → assignments_kept loops ks ≡ with_parts (assignments_kept loops ks) (parts_of_expression p e)
assignments_stay loops ks p e = sym (stays_within (assignments_kept loops ks) (λ p e. ap (assignments_kept loops) (append-nil ks)) p e)

either : (a b c : Bool) → (a || (b || c)) ≡ ((b || a) || c)
either true true c = refl
either true false c = refl
either false true c = refl
either false false c = refl

assignments_come : (loops : Bool) (ks : List KeptAssignment) (ps : List (Placed (Part Span))) → with_parts (assignments_kept loops ks) ps ≡ assignments_kept (has_loop ps || loops) (ks ++ assignments_in ps)
assignments_come loops ks [] = ap (assignments_kept loops) (sym (append-nil ks))
assignments_come loops ks (q ∷ ps) =
    assignments_come (is_loop q.it || loops) (ks ++ assignments_in (q ∷ [])) ps
    ∙ ap₂ assignments_kept (either (has_loop ps) (is_loop q.it) loops)
    (append_assoc ks (assignments_in (q ∷ [])) (assignments_in ps) ∙ ap (λ l. ks ++ l) (sym (filter_map-append (λ r. assignment_at r.place r.it) (q ∷ []) ps)))

neither : (a : Bool) → (a || false) ≡ false → a ≡ false
neither true is = is
neither false is = refl

pub all_gathered : (loops : Bool) (ks : List KeptAssignment) (ps : List (Placed (Part Span))) → any_sets_by_call (noted ps) ≡ false → assignments_kept loops ks ≡ with_parts (assignments_kept false []) ps → loops ≡ false
    → AreAssignments ps ks
all_gathered loops ks ps no_call comes none =
    let all = comes ∙ assignments_come false [] ps in
    let loop : loops ≡ (has_loop ps || false) = cc in
    let own : ks ≡ assignments_in ps = cc in
    record { no_call = no_call; no_loop = neither (has_loop ps) (sym loop ∙ none); are = own }

-- all of a file, or those of setters
pub more_asked : (names : List (Bor (List ℕ))) (all : Bool) (ns : List (Placed (Note Span))) (found : Option (List (Placed (Note Span)))) (kept : KeptParts) (ps : List (Placed (Part Span))) → found ≡ notes_of_kept kept
    → kept ≡ with_parts (kept_so_far names all ns) ps → found ≡ Some (ns ++ (if all then noted ps else setters_of names ps))
more_asked names true ns found kept ps is comes = is ∙ ap notes_of_kept (comes ∙ notes_come ns ps)
more_asked names false ns found kept ps is comes = is ∙ ap notes_of_kept (comes ∙ setters_come names ns ps)

pub all_noted : (found : Option (List (Placed (Note Span)))) (kept : KeptParts) (ps : List (Placed (Part Span))) → found ≡ notes_of_kept kept → kept ≡ with_parts (notes_kept []) ps → found ≡ Some (noted ps)
all_noted found kept ps is comes = is ∙ ap notes_of_kept (comes ∙ notes_come [] ps)

-- behind others
pub more_noted : (ns : List (Placed (Note Span))) (found : Option (List (Placed (Note Span)))) (kept : KeptParts) (ps : List (Placed (Part Span))) → found ≡ notes_of_kept kept → kept ≡ with_parts (notes_kept ns) ps → found ≡ Some (ns ++ noted ps)
more_noted ns found kept ps is comes = is ∙ ap notes_of_kept (comes ∙ notes_come ns ps)

pub all_read : (x : List ℕ) (found : Option (List CallRef)) (kept : KeptParts) (ps : List (Placed (Part Span))) → found ≡ reads_of_kept kept → kept ≡ with_parts (reads_kept x []) ps → found ≡ Some (read_in x ps)
all_read x found kept ps is comes = is ∙ ap reads_of_kept (comes ∙ reads_come x [] ps)

pub all_opened : (found : Option (List Opened)) (kept : KeptParts) (ps : List (Placed (Part Span))) → found ≡ lists_of_kept kept → kept ≡ with_parts (lists_kept []) ps → found ≡ Some (lists_opened ps)
all_opened found kept ps is comes = is ∙ ap lists_of_kept (comes ∙ lists_come [] ps)
