-- What a line finds begins or opens on it.
use Rattle.std.proofs.Common.{◌≡◌, ℕ, List, [], ◌∷◌, Some, None, Option, Result, Ok, Err, refl, sym, ap, ◌∙◌, subst, inl, inr}
use Rattle.std.specs.Prelude.{Bool, true, false, ◌==◌, ◌&&◌, if◌then◌else◌, ok_or}
use Rattle.std.specs.List.{list_all}
use Rattle.std.proofs.lemmas.Bool.{and_parts, eq-eqb, eqb-true}
use Rattle.meson_lex.specs.declared.kinds.Span.{Span}
use Rattle.meson_splice.specs.Files.{bytes_at, position_of_file}
use Rattle.meson_splice.specs.Patch.{then_ok}
use Rattle.meson_syntax.proofs.parsing.Steps.{some-injective}
use Rattle.meson_calls.specs.declared.call.CallRef.{CallRef}
use Rattle.meson_calls.specs.declared.keeper.Opened.{Opened}
use Rattle.meson_calls.specs.declared.refusal.Refusal.{Refusal}
use Rattle.meson_calls.specs.declared.refusal.Refusal.TheVariants.{Ambiguous, NoFile}
use Rattle.meson_calls.specs.Loading.{Loaded, project}
use Rattle.meson_calls.specs.Notes.{Note, notes}
use Rattle.meson_calls.specs.Parts.{parts_of_file}
use Rattle.meson_calls.specs.Project.{BuildFile, Placed, nth_file}
use Rattle.meson_calls.specs.Walks.{lists_opened}
use Rattle.meson_steps.specs.declared.argument.Search.{Search}
use Rattle.meson_places.specs.LineLaws.{BeginsOn, FindsOnLine, IsOnLine, OpensOn}
use Rattle.meson_places.specs.Names.{beginning_among, beginning_at, found_on, found_within, is_on, is_searched, leads_into, line_of, lists_among, lists_on, offset_of, opens_on, place_on, places_on, searched, searched_file}
use Rattle.meson_places.proofs.Found.{Among, IsGiven, among, contained, given, given_by, kept, kept_by}

into_itself : (path : List ℕ) → leads_into path path ≡ true
into_itself [] = refl
into_itself (n ∷ path) = ap (λ b. b && leads_into path path) (eq-eqb n n refl) ∙ into_itself path

of_all : {X : Type 0} (test : X → Bool) (xs : List X) (x : X) → list_all test xs ≡ true → Among xs x → test x ≡ true
of_all test [] x all m = absurd m
of_all test (y ∷ ys) x all (inl same) = sym (ap test same) ∙ (and_parts (test y) (list_all test ys) all).0
of_all test (y ∷ ys) x all (inr m) = of_all test ys x (and_parts (test y) (list_all test ys) all).1 m

module _ (l : Loaded) (file line : ℕ) where
  abbrev bytes : List ℕ
  bytes = bytes_at file l.files

  abbrev all : List (Placed (Note Span))
  all = notes (project l)

  on_it : (o : Option ℕ) → is_on bytes line o ≡ true → (at_ : ℕ) × (o ≡ Some at_) × (line_of bytes at_ ≡ line)
  on_it None h = absurd (let no : ⊥ = cc in no)
  on_it (Some at_) h = (at_, refl, eqb-true (line_of bytes at_) line h)

  begins : (c : CallRef) → Among (places_on l.files file line all) c → BeginsOn l file line c
  begins c m = go (by.of.place.file == file) (is_on bytes line (offset_of by.of.it)) refl refl by.gives
    where
      by : IsGiven (place_on bytes file line) all c
      by = given_by (place_on bytes file line) all c m

      go : (a b : Bool) → (by.of.place.file == file) ≡ a → is_on bytes line (offset_of by.of.it) ≡ b → (if a && b then Some (beginning_at by.of.it by.of.place) else None) ≡ Some c → BeginsOn l file line c
      go true true f o g =
          let at_ = on_it (offset_of by.of.it) o in
          record {
            note = by.of;
            is_there = contained all by.of by.is_among;
            in_file = eqb-true by.of.place.file file f;
            offset = at_.0;
            is_offset = at_.1;
            on_line = at_.2;
            is_place = some-injective (beginning_at by.of.it by.of.place) c g;
          }
      go true false f o g = absurd (let no : ⊥ = cc in no)
      go false b f o g = absurd (let no : ⊥ = cc in no)

  starts : (c : CallRef) → BeginsOn l file line c → Among (places_on l.files file line all) c
  starts c b =
      let here = ap (is_on bytes line) b.is_offset ∙ eq-eqb (line_of bytes b.offset) line b.on_line in
      given (place_on bytes file line) all b.note c (among all b.note b.is_there.0 b.is_there.1 b.is_there.2)
      (ap (λ x. if x && is_on bytes line (offset_of b.note.it) then Some (beginning_at b.note.it b.note.place) else None) (eq-eqb b.note.place.file file b.in_file)
      ∙ ap (λ x. if x then Some (beginning_at b.note.it b.note.place) else None) here ∙ ap Some b.is_place)

  opens : (c : CallRef) → Among (lists_on l file line) c → OpensOn l file line c
  opens c m = go (nth_file (project l) file) refl m
    where
      on_line : (o : Opened) (b : Bool) → (line_of bytes o.at == line) ≡ b → (if b then Some o.place else None) ≡ Some c → (line_of bytes o.at ≡ line) × (o.place ≡ c)
      on_line o true h g = (eqb-true (line_of bytes o.at) line h, some-injective o.place c g)
      on_line o false h g = absurd (let no : ⊥ = cc in no)

      go : (f : Option (BuildFile Span)) → nth_file (project l) file ≡ f → Among (lists_among bytes file line f) c → OpensOn l file line c
      go None is n = absurd n
      go (Some f) is n =
          let lists = lists_opened (parts_of_file file f.tree) in
          let by = given_by (opens_on bytes line) lists c n in
          let o = on_line by.of (line_of bytes by.of.at == line) refl by.gives in
          record { tree = f; is_tree = is; opened = by.of; is_there = contained lists by.of by.is_among; on_line = o.0; is_place = o.1 }

module _ (l : Loaded) (s : Search) (file : List ℕ) (line : ℕ) (c : CallRef) (within : Option ℕ) (is : searched_file l.files s.folder ≡ Ok within) (number : ℕ) (is_number : position_of_file file l.files ≡ Some number) where
  abbrev places : List CallRef
  places = places_on l.files number line (notes (project l))

  abbrev lists : List CallRef
  lists = lists_on l number line

  abbrev outer : CallRef → CallRef → Bool
  outer x d = leads_into d.path.steps x.path.steps

  around : (x : CallRef) (more : List CallRef) → searched within places ≡ x ∷ more → (b : Bool) → list_all (outer x) more ≡ b → (if b then Ok x else Err Ambiguous) ≡ Ok c → IsOnLine l s file line c
  around x more are false all g = absurd (let no : ⊥ = cc in no)
  around x more are true all g =
      let same : x ≡ c = cc in
      let it = kept_by (is_searched within) places x (subst (λ xs. Among xs x) (sym are) (inl refl)) in
      let other : (d : CallRef) → Among (x ∷ more) d → outer x d ≡ true = λ d m. one d m in
      subst (IsOnLine l s file line) same (record {
        within = within;
        is_within = is;
        in_files = it.0;
        number = number;
        is_number = is_number;
        found = inl (record {
          begins = begins l number line x it.1;
          others = λ d searched_too b. other d (subst (λ xs. Among xs d) are (kept (is_searched within) places d (starts l number line d b) searched_too));
        });
      })
    where
      one : (d : CallRef) → Among (x ∷ more) d → outer x d ≡ true
      one d (inl e) = sym (ap (outer x) e) ∙ into_itself x.path.steps
      one d (inr m) = of_all (outer x) more d all m

  first : searched within places ≡ [] → (ys : List CallRef) → searched within lists ≡ ys → beginning_among [] ys ≡ Ok c → IsOnLine l s file line c
  first none [] are g = absurd (let no : ⊥ = cc in no)
  first none (y ∷ more) are g =
      let same : y ≡ c = cc in
      let it = kept_by (is_searched within) lists y (subst (λ xs. Among xs y) (sym are) (inl refl)) in
      subst (IsOnLine l s file line) same (record {
        within = within;
        is_within = is;
        in_files = it.0;
        number = number;
        is_number = is_number;
        found = inr (record {
          opens = opens l number line y it.1;
          nothing = λ d searched_too b. subst (λ xs. Among xs d) none (kept (is_searched within) places d (starts l number line d b) searched_too);
          later = more;
          is_first = are;
        });
      })

  by_places : (xs : List CallRef) → searched within places ≡ xs → beginning_among xs (searched within lists) ≡ Ok c → IsOnLine l s file line c
  by_places [] are g = first are (searched within lists) refl g
  by_places (x ∷ more) are g = around x more are (list_all (outer x) more) refl g

pub finds_on_line : FindsOnLine
finds_on_line l s file line named c h = go (searched_file l.files s.folder) refl h
  where
    numbered : (within : Option ℕ) → searched_file l.files s.folder ≡ Ok within → (o : Option ℕ) → position_of_file file l.files ≡ o → then_ok (ok_or o NoFile) (λ n. found_on l within n line) ≡ Ok c → IsOnLine l s file line c
    numbered within is None at_ g = absurd (let no : ⊥ = cc in no)
    numbered within is (Some number) at_ g = by_places l s file line c within is number at_ (searched within (places_on l.files number line (notes (project l)))) refl g

    go : (r : Result (Option ℕ) Refusal) → searched_file l.files s.folder ≡ r → then_ok r (λ w. found_within l w s.name) ≡ Ok c → IsOnLine l s file line c
    go (Err e) is k = absurd (let no : ⊥ = cc in no)
    go (Ok within) is k = numbered within is (position_of_file file l.files) refl (sym (ap (found_within l within) named) ∙ k)
