-- The statement that a search finds is there, and begins on the line.
use Rattle.std.proofs.Common.{◌≡◌, ℕ, List, [], ◌∷◌, Option, Some, None, Result, Ok, Err, refl, sym, ap, ◌∙◌, subst, inl, inr}
use Rattle.std.specs.Prelude.{Bool, true, false, ◌==◌, if◌then◌else◌, ok_or, option_and_then}
use Rattle.std.proofs.lemmas.Bool.{eq-eqb, eqb-true}
use Rattle.meson_lex.specs.declared.kinds.Span.{Span}
use Rattle.meson_splice.specs.Files.{bytes_at, position_of_file}
use Rattle.meson_splice.specs.Patch.{then_ok}
use Rattle.meson_syntax.specs.Tree.{Statement}
use Rattle.meson_syntax.proofs.parsing.Steps.{some-injective}
use Rattle.meson_syntax.proofs.paths.Reaching.{and-then-some}
use Rattle.meson_edit.specs.Standing.{statement_span}
use Rattle.meson_calls.specs.declared.call.CallRef.{CallRef}
use Rattle.meson_calls.specs.declared.refusal.Refusal.{Refusal}
use Rattle.meson_calls.specs.declared.refusal.Refusal.TheVariants.{NoFile, NotFound, NotStatement}
use Rattle.meson_calls.specs.Loading.{Loaded, project}
use Rattle.meson_calls.specs.Project.{BuildFile, Project, nth_file}
use Rattle.meson_steps.specs.declared.argument.PlaceName.{PlaceName}
use Rattle.meson_steps.specs.declared.argument.PlaceName.TheVariants as name
use Rattle.meson_targets.specs.TargetEdits.{StatementPlace, statement_of, statement_there}
use Rattle.meson_places.specs.Names.{found_by_id, is_searched, line_of, searched_file}
use Rattle.meson_code.specs.AnchorLaws.{AnchorsAreOnLine, AnchorsAreThere, IsOnLine, IsStatementAt, NoneOverlooked, StatementBegins}
use Rattle.meson_code.specs.Anchors.{anchor_by_id, anchor_on, anchor_within, first_among, holds_value, if_holds_value, if_searched, statement_on, statement_with}
use Rattle.meson_code.specs.Statements.{PlacedStatement, begins_on, first_on, statements_of_file}
use Rattle.meson_code.proofs.Placed.{Among, at_file, each_listed, each_there}

abbrev Q : Type 0
Q = PlacedStatement Span

-- ---- the first that begins on a line

record IsFirst (bytes : List ℕ) (line : ℕ) (qs : List Q) (a : StatementPlace) : Type 0 where
  it : Q
  is_among : Among qs it
  is_place : it.place ≡ a
  begins : begins_on bytes line it.it ≡ true

first_is : (bytes : List ℕ) (line : ℕ) (qs : List Q) (a : StatementPlace) → first_on bytes line qs ≡ Some a → IsFirst bytes line qs a
first_is bytes line [] a is = absurd (let no : ⊥ = cc in no)
first_is bytes line (q ∷ qs) a is = go (begins_on bytes line q.it) refl is (first_is bytes line qs a)
  where
    go : (b : Bool) → begins_on bytes line q.it ≡ b → (if b then Some q.place else first_on bytes line qs) ≡ Some a → (first_on bytes line qs ≡ Some a → IsFirst bytes line qs a) → IsFirst bytes line (q ∷ qs) a
    go true b h later = record { it = q; is_among = inl refl; is_place = some-injective q.place a h; begins = b }
    go false b h later = let i = later h in record { it = i.it; is_among = inr i.is_among; is_place = i.is_place; begins = i.begins }

none_begins : (bytes : List ℕ) (line : ℕ) (qs : List Q) (q : Q) → first_on bytes line qs ≡ None → Among qs q → begins_on bytes line q.it ≡ true → ⊥
none_begins bytes line [] q none m b = m
none_begins bytes line (r ∷ qs) q none (inl same) b =
    let here = ap (λ (x : Q). begins_on bytes line x.it) same ∙ b in
    let found = sym (ap (λ t. if t then Some r.place else first_on bytes line qs) here) ∙ none in
    let no : ⊥ = cc in no
none_begins bytes line (r ∷ qs) q none (inr m) b = go (begins_on bytes line r.it) none (λ n. none_begins bytes line qs q n m b)
  where
    go : (t : Bool) → (if t then Some r.place else first_on bytes line qs) ≡ None → (first_on bytes line qs ≡ None → ⊥) → ⊥
    go true h later = let no : ⊥ = cc in no
    go false h later = later h

-- ---- by an id

value_held : (a b : StatementPlace) (o : Option (Statement Span)) → if_holds_value a o ≡ Some b → (a ≡ b) × ((x : Statement Span) × (o ≡ Some x))
value_held a b None is = absurd (let no : ⊥ = cc in no)
value_held a b (Some x) is = go (holds_value x) is
  where
    go : (t : Bool) → (if t then Some a else None) ≡ Some b → (a ≡ b) × ((y : Statement Span) × (Some x ≡ Some y))
    go true h = (some-injective a b h, (x, refl))
    go false h = absurd (let no : ⊥ = cc in no)

pub with_there : (p : Project Span) (c : CallRef) (a : StatementPlace) → statement_with p c ≡ Some a → (x : Statement Span) × (statement_there p a ≡ Some x)
with_there p c a is =
    let o = and-then-some (λ (b : StatementPlace). if_holds_value b (statement_there p b)) (statement_of c) a is in
    let h = value_held o.0 a (statement_there p o.0) o.2 in
    (h.1.0, ap (statement_there p) (sym h.0) ∙ h.1.1)

id_there : (l : Loaded) (within : Option ℕ) (n : PlaceName) (a : StatementPlace) → anchor_by_id l within n ≡ Ok a → IsStatementAt l a
id_there l within n a h = go (found_by_id l within n) h
  where
    there : (c : CallRef) (o : Option StatementPlace) → statement_with (project l) c ≡ o → ok_or o NotStatement ≡ Ok a → IsStatementAt l a
    there c None is k = absurd (let no : ⊥ = cc in no)
    there c (Some b) is k = let same : b ≡ a = cc in with_there (project l) c a (is ∙ ap Some same)

    go : (r : Result CallRef Refusal) → then_ok r (λ c. ok_or (statement_with (project l) c) NotStatement) ≡ Ok a → IsStatementAt l a
    go (Err e) k = absurd (let no : ⊥ = cc in no)
    go (Ok c) k = there c (statement_with (project l) c) refl k

-- ---- by a line

module _ (l : Loaded) (within : Option ℕ) (file line : ℕ) where
  abbrev bytes : List ℕ
  bytes = bytes_at file l.files

  statement_begins : (a : StatementPlace) → statement_on l file line ≡ Some a → StatementBegins l file line a
  statement_begins a h = go (nth_file (project l) file) refl h
    where
      go : (o : Option (BuildFile Span)) → nth_file (project l) file ≡ o → first_among bytes file line o ≡ Some a → StatementBegins l file line a
      go None is k = absurd (let no : ⊥ = cc in no)
      go (Some f) is k =
          let i = first_is bytes line (statements_of_file file f.tree) a k in
          let there = each_there (project l) file f is i.it i.is_among in
          record {
            in_file = ap (λ (b : StatementPlace). b.block.file) (sym i.is_place) ∙ there.0;
            it = i.it.it;
            is_there = ap (statement_there (project l)) (sym i.is_place) ∙ there.1;
            on_line = eqb-true (line_of bytes (statement_span i.it.it).from) line i.begins;
          }

  nothing_begins : statement_on l file line ≡ None → (a : StatementPlace) → StatementBegins l file line a → ⊥
  nothing_begins h a b = go (nth_file (project l) file) refl h
    where
      go : (o : Option (BuildFile Span)) → nth_file (project l) file ≡ o → first_among bytes file line o ≡ None → ⊥
      go None is k =
          let none : Some b.it ≡ None = sym b.is_there ∙ ap (option_and_then (at_file a)) (ap (nth_file (project l)) b.in_file ∙ is) in
          let no : ⊥ = cc in no
      go (Some f) is k =
          none_begins bytes line (statements_of_file file f.tree) (record { place = a; it = b.it }) k (each_listed (project l) file f is a b.it b.in_file b.is_there)
          (eq-eqb (line_of bytes (statement_span b.it).from) line b.on_line)

  record OnLine (a : StatementPlace) : Type 0 where
    is_first : statement_on l file line ≡ Some a
    in_files : is_searched within a.block ≡ true

  on_line : (a : StatementPlace) → anchor_on l within file line ≡ Ok a → OnLine a
  on_line a h = go (statement_on l file line) refl h
    where
      in_searched : (b : StatementPlace) (t : Bool) → is_searched within b.block ≡ t → statement_on l file line ≡ Some b → (if t then Ok b else Err NotFound) ≡ Ok a → OnLine a
      in_searched b true t is k =
          let same : b ≡ a = cc in
          subst OnLine same (record { is_first = is; in_files = t })
      in_searched b false t is k = absurd (let no : ⊥ = cc in no)

      go : (o : Option StatementPlace) → statement_on l file line ≡ o → then_ok (ok_or o NotFound) (if_searched within) ≡ Ok a → OnLine a
      go None is k = absurd (let no : ⊥ = cc in no)
      go (Some b) is k = in_searched b (is_searched within b.block) refl is k

  -- a statement that is searched and begins on the line is not overlooked
  none_on_line : anchor_on l within file line ≡ Err NotFound → (a : StatementPlace) → is_searched within a.block ≡ true → StatementBegins l file line a → ⊥
  none_on_line h a is_in b = go (statement_on l file line) refl h
    where
      same_file : (w : Option ℕ) (c d : CallRef) → c.file ≡ d.file → is_searched w c ≡ is_searched w d
      same_file None c d same = refl
      same_file (Some n) c d same = ap (λ f. f == n) same

      go : (o : Option StatementPlace) → statement_on l file line ≡ o → then_ok (ok_or o NotFound) (if_searched within) ≡ Err NotFound → ⊥
      go None is k = nothing_begins is a b
      go (Some c) is k =
          let f = statement_begins c is in
          let too : is_searched within c.block ≡ true = same_file within c.block a.block (f.in_file ∙ sym b.in_file) ∙ is_in in
          let done : Ok c ≡ Err NotFound = sym (ap (λ t. if t then Ok c else Err NotFound) too) ∙ k in
          let no : ⊥ = cc in no

-- ---- laws

line_within : (l : Loaded) (within : Option ℕ) (file : List ℕ) (line : ℕ) (a : StatementPlace) → anchor_within l within (name.Line file line) ≡ Ok a
    → (number : ℕ) × (position_of_file file l.files ≡ Some number) × OnLine l within number line a
line_within l within file line a h = go (position_of_file file l.files) refl h
  where
    go : (o : Option ℕ) → position_of_file file l.files ≡ o → then_ok (ok_or o NoFile) (λ n. anchor_on l within n line) ≡ Ok a
        → (number : ℕ) × (position_of_file file l.files ≡ Some number) × OnLine l within number line a
    go None is k = absurd (let no : ⊥ = cc in no)
    go (Some number) is k = (number, is, on_line l within number line a k)

there_within : (l : Loaded) (within : Option ℕ) (n : PlaceName) (a : StatementPlace) → anchor_within l within n ≡ Ok a → IsStatementAt l a
there_within l within (name.Line file line) a h =
    let o = line_within l within file line a h in
    let b = statement_begins l within o.0 line a o.2.is_first in
    (b.it, b.is_there)
there_within l within (name.Project id) a h = id_there l within (name.Project id) a h
there_within l within (name.Call f id) a h = id_there l within (name.Call f id) a h
there_within l within (name.Variable id) a h = id_there l within (name.Variable id) a h

pub anchors_are_there : AnchorsAreThere
anchors_are_there l s a h = go (searched_file l.files s.folder) h
  where
    go : (r : Result (Option ℕ) Refusal) → then_ok r (λ w. anchor_within l w s.name) ≡ Ok a → IsStatementAt l a
    go (Err e) k = absurd (let no : ⊥ = cc in no)
    go (Ok within) k = there_within l within s.name a k

pub anchors_are_on_line : AnchorsAreOnLine
anchors_are_on_line l s file line named a h = go (searched_file l.files s.folder) refl h
  where
    go : (r : Result (Option ℕ) Refusal) → searched_file l.files s.folder ≡ r → then_ok r (λ w. anchor_within l w s.name) ≡ Ok a → IsOnLine l s file line a
    go (Err e) is k = absurd (let no : ⊥ = cc in no)
    go (Ok within) is k =
        let o = line_within l within file line a (ap (anchor_within l within) (sym named) ∙ k) in
        record {
          within = within;
          is_within = is;
          in_files = o.2.in_files;
          number = o.0;
          is_number = o.1;
          begins = statement_begins l within o.0 line a o.2.is_first;
        }

pub none_overlooked : NoneOverlooked
none_overlooked l s file line named h a i =
    let found = sym (ap (λ r. then_ok r (λ w. anchor_within l w s.name)) i.is_within) ∙ h in
    let by_line = sym (ap (anchor_within l i.within) named) ∙ found in
    let in_file = sym (ap (λ o. then_ok (ok_or o NoFile) (λ n. anchor_on l i.within n line)) i.is_number) ∙ by_line in
    none_on_line l i.within i.number line in_file a i.in_files i.begins
