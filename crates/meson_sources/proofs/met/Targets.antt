-- What a target of files that are read holds stands where its slot says, each item at a place of its own.
use Rattle.meson_calls.specs.declared.call.Role.TheVariants as role
use Rattle.meson_steps.proofs.ArgumentValues.{named_value}
use Rattle.meson_sources.specs.MetOnce.{ItemsAreMetOnce}
use Rattle.meson_sources.proofs.Words.{cons_option, filter_map, All, Ok, option_map, ⊤, [], ap, append-nil, arith, false, List, None, Option, refl, Some, subst}
use Rattle.meson_sources.proofs.Words.{suc, sym, ℕ, ◌++◌, ◌+◌, ◌∙◌, ◌∷◌, ◌≡◌, ◌≤◌, All-cons, All-nil, Span, nth, Argument, argument, argument_list, Arguments}
use Rattle.meson_sources.proofs.Words.{call, Expression, Listing, listing, named, no_arguments, pair, plain, some-injective, Every, every-append, elements}
use Rattle.meson_sources.proofs.Words.{Call, kept_number, keyword, Numbered, numbered, numbered_arguments, positional, value_with_name, value_without_name}
use Rattle.meson_sources.proofs.Words.{the_call, AreParsed, Loaded, project, kwargs_key, rest, sources_key, child, Placed, Project, CallRef, both_expanded}
use Rattle.meson_sources.proofs.Words.{expand, Expansion, fixed, in_list, is_files, max_followed, Slot, Stand, expand_arguments, hidden, items, source_marks}
use Rattle.meson_sources.proofs.Words.{extra_key, extra_marks}
use Rattle.meson_calls.specs.Project.{expression_at}
use Rattle.meson_sources.proofs.gone.Named.{every_weaker}
use Rattle.meson_sources.proofs.gone.Spots.{Pairwise, all_pairs}
use Rattle.meson_sources.proofs.met.Once.{expand_once}
use Rattle.meson_sources.proofs.met.Regions.{Beneath, Comes, Meets, both_once, items_both, none_met, other_child, InRegion, argument_inside, child_inside}
use Rattle.meson_sources.proofs.met.Regions.{one_region, value_inside}
use Rattle.meson_sources.proofs.met.Standing.{ElementAt, StandsAs, elements_stand, AllStand, ItemFits, MarkStands, OtherPlace, SlotFits}
use Rattle.meson_sources.proofs.told.Variables.{target_no_files}
use Rattle.meson_sources.proofs.trees.Calls.{CallIn, called, target_at}
use Rattle.meson_sources.proofs.trees.Elements.{AreLevel, parsed_level, value_stands}
use Rattle.meson_calls.specs.declared.call.CallName.{CallName}

-- ---- the arguments of a call, by their numbers

numbered_each : (choose : Argument Span → Option (Expression Span)) (Q : Numbered (Expression Span) → Type 0) (list : Arguments Span) (n : ℕ)
    → ((j : ℕ) (a : Argument Span) (x : Expression Span) → nth (argument_list list) j ≡ Some a → choose a ≡ Some x → Q (record { number = n + j; value = x })) → Every Q (filter_map (kept_number choose) (numbered n list))
numbered_each choose Q no_arguments n f = tt
numbered_each choose Q (argument a more) n f = go (choose a) refl (numbered_each choose Q more (n + 1) (λ j b x is chosen.
    let k : n + suc j ≡ (n + 1) + j = omega arith in subst (λ i. Q (record { number = i; value = x })) k (f (suc j) b x is chosen)))
  where
    go : (o : Option (Expression Span)) → choose a ≡ o → Every Q (filter_map (kept_number choose) (numbered (n + 1) more))
        → Every Q (cons_option (option_map (λ y. record { number = n; value = y }) o) (filter_map (kept_number choose) (numbered (n + 1) more)))
    go None is all = all
    go (Some x) is all = let k : n + 0 ≡ n = omega arith in (subst (λ i. Q (record { number = i; value = x })) k (f 0 a x refl is), all)

listed_each : (choose : Argument Span → Option (Expression Span)) (Q : Numbered (Expression Span) → Type 0) (l : Listing Span)
    → ((j : ℕ) (a : Argument Span) (x : Expression Span) → nth (elements l) j ≡ Some a → choose a ≡ Some x → Q (record { number = j; value = x })) → Every Q (filter_map (kept_number choose) (numbered_arguments l))
listed_each choose Q (listing s trailing list) f =
    numbered_each choose Q list 0 (λ j a x is chosen. let k : j ≡ 0 + j = omega arith in subst (λ i. Q (record { number = i; value = x })) k (f j a x is chosen))

nameless : (a : Argument Span) (x : Expression Span) → value_without_name a ≡ Some x → a ≡ plain x
nameless (plain e) x is = let same : e ≡ x = cc in ap plain same
nameless (named s k e) x is = absurd cc
nameless (pair s e f) x is = absurd cc

every_rest : {X : Type 0} (P : X → Type 0) (xs : List X) → Every P xs → Every P (rest xs)
every_rest P [] all = tt
every_rest P (x ∷ xs) all = all.1

all_of : {X : Type 0} (P : X → Type 0) (xs : List X) → Every P xs → All P xs
all_of P [] all = All-nil P
all_of P (x ∷ xs) all = All-cons P x xs all.0 (all_of P xs all.1)

-- each is behind those before it, and the first is this one or behind it
abbrev Rising : {X : Type 0} → ℕ → List (Numbered X) → Type 0
Rising n [] = ⊤
Rising n (a ∷ more) = (n ≤ a.number) × Rising (a.number + 1) more

from_before : {X : Type 0} (n m : ℕ) (list : List (Numbered X)) → n ≤ m → Rising m list → Rising n list
from_before n m [] le r = tt
from_before n m (a ∷ more) le r = let first = r.0 in let all : n ≤ a.number = omega (arith, le, first) in (all, r.1)

numbers_rise : (choose : Argument Span → Option (Expression Span)) (list : Arguments Span) (n : ℕ) → Rising n (filter_map (kept_number choose) (numbered n list))
numbers_rise choose no_arguments n = tt
numbers_rise choose (argument a more) n = go (choose a) (numbers_rise choose more (n + 1))
  where
    go : (o : Option (Expression Span)) → Rising (n + 1) (filter_map (kept_number choose) (numbered (n + 1) more))
        → Rising n (cons_option (option_map (λ y. record { number = n; value = y }) o) (filter_map (kept_number choose) (numbered (n + 1) more)))
    go None r = let le : n ≤ n + 1 = omega arith in from_before n (n + 1) _ le r
    go (Some x) r = let le : n ≤ n = omega arith in (le, r)

rest_rises : {X : Type 0} (n : ℕ) (list : List (Numbered X)) → Rising n list → Rising n (rest list)
rest_rises n [] r = tt
rest_rises n (a ∷ more) r = let first = r.0 in let le : n ≤ a.number + 1 = omega (arith, first) in from_before n (a.number + 1) more le r.1

-- ---- the arguments of a target

module _ (p : Project Span) (levels : AreLevel p) (c : CallRef) (t : CallIn p c) (no_list : is_files t.name.text (listing t.brackets t.trailing t.arguments) ≡ false) where
  abbrev In : Option (List ℕ) → CallRef → Type 0
  In = InRegion p c

  abbrev it : Expression Span
  it = call t.span t.name (listing t.brackets t.trailing t.arguments)

  abbrev list : Listing Span
  list = listing t.brackets t.trailing t.arguments

  -- the argument of this number is one that a test keeps
  record Chosen (choose : Argument Span → Option (Expression Span)) (k : ℕ) (x : Expression Span) : Type 0 where
    argument : Argument Span
    is_argument : nth (elements list) k ≡ Some argument
    is_kept : choose argument ≡ Some x

  record KeptAt (choose : Argument Span → Option (Expression Span)) (slot : ℕ → Slot) (a : Numbered (Expression Span)) : Type 0 where
    stands : StandsAs p (record { place = child c a.number; slot = slot a.number; variable = None }) a.value
    chosen : Chosen choose a.number a.value

  positional_at : Every (KeptAt value_without_name (in_list c)) (positional (called t).it)
  positional_at = listed_each value_without_name (KeptAt value_without_name (in_list c)) list (λ j a x is chosen.
      let k : 0 + j ≡ j = omega arith in record {
        stands = subst (λ i. ElementAt p c i x) k (elements_stand p levels c it _ t.at refl refl j x (is ∙ ap (λ b. Some b) (nameless a x chosen)));
        chosen = record { argument = a; is_argument = is; is_kept = chosen };
      })

  keyword_at : (key : List ℕ) → Every (KeptAt (value_with_name key) (λ n. fixed)) (keyword key (called t).it)
  keyword_at key = listed_each (value_with_name key) (KeptAt (value_with_name key) (λ n. fixed)) list (λ j a x is chosen. record {
    stands = record { is_at = value_stands p levels c it _ t.at refl refl j a x is (named_value key a x chosen); slot = tt };
    chosen = record { argument = a; is_argument = is; is_kept = chosen };
  })

  -- below such an argument, from this number on
  abbrev Region : (Argument Span → Option (Expression Span)) → ℕ → CallRef → Type 0
  Region choose n q = (k : ℕ) × (n ≤ k) × (x : Expression Span) × Chosen choose k x × Beneath (child c k) q

  arguments_once : (choose : Argument Span → Option (Expression Span)) (slot : ℕ → Slot) → ((n : ℕ) → SlotFits (slot n) (child c n)) → (given : List (Numbered (Expression Span))) (n : ℕ) (f : List (List ℕ))
      → Rising n given → Every (KeptAt choose slot) given → Meets p In (Region choose n) None f (expand_arguments p c slot given f)
  arguments_once choose slot fits [] n f r all = none_met p In (Region choose n) None f
  arguments_once choose slot fits (a ∷ more) n f r all =
      let s : Stand = record { place = child c a.number; slot = slot a.number; variable = None } in
      let e = expand p max_followed a.value s f in
      let first =
      expand_once p levels In (one_region p c) (child_inside p c t no_list) (value_inside p c t no_list) max_followed a.value s f
      (record { is_at = all.0.stands.is_at; slot = all.0.stands.slot; inside = argument_inside p c a.number; fits = fits a.number; known = λ x none. absurd cc }) in
      both_once p In (one_region p c) (Beneath (child c a.number)) (Region choose (a.number + 1)) (Region choose n)
      (λ q u. (a.number, r.0, a.value, all.0.chosen, u))
      (λ q w. let le = r.0 in let more = w.1 in let all : n ≤ w.0 = omega (arith, le, more) in (w.0, all, w.2, w.3, w.4))
      (λ q u w. let same = other_child c q a.number w.0 u w.4 in let more = w.1 in omega (arith, same, more))
      None f (λ x none. absurd cc) e (expand_arguments p c slot more e.followed) first.it (arguments_once choose slot fits more (a.number + 1) e.followed r.1 all.1)

  keyword_once : (key : List ℕ) (f : List (List ℕ)) → Meets p In (Region (value_with_name key) 0) None f (expand_arguments p c (λ n. fixed) (keyword key (called t).it) f)
  keyword_once key f = arguments_once (value_with_name key) (λ n. fixed) (λ n. tt) (keyword key (called t).it) 0 f (numbers_rise (value_with_name key) t.arguments 0) (keyword_at key)

  -- no argument has a name and has none
  not_both : (key : List ℕ) (a : Argument Span) (x y : Expression Span) → value_without_name a ≡ Some x → value_with_name key a ≡ Some y → ⊥
  not_both key (plain e) x y one other = cc
  not_both key (named s k e) x y one other = cc
  not_both key (pair s e d) x y one other = cc

  both_apart : (key : List ℕ) (q : CallRef) → Region value_without_name 0 q → Region (value_with_name key) 0 q → ⊥
  both_apart key q u w =
      let same = other_child c q u.0 w.0 u.4 w.4 in
      let arguments : u.3.argument ≡ w.3.argument = some-injective _ _ (sym u.3.is_argument ∙ ap (nth (elements list)) same ∙ w.3.is_argument) in
      not_both key w.3.argument u.2 w.2 (ap value_without_name (sym arguments) ∙ u.3.is_kept) w.3.is_kept

  -- ---- all of them

  hidden_stand : (ys : List (Numbered (Expression Span))) → Every (MarkStands p) (hidden ys)
  hidden_stand [] = tt
  hidden_stand (y ∷ ys) = (tt, tt)

  none_hidden : (ys : List (Numbered (Expression Span))) → items (hidden ys) ≡ []
  none_hidden [] = refl
  none_hidden (y ∷ ys) = refl

  -- beside them some may be hidden
  with_others : (Own : CallRef → Type 0) (f : List (List ℕ)) (e : Expansion Span) (ys : List (Numbered (Expression Span))) → Meets p In Own None f e → AllStand p (e.marks ++ hidden ys)
  with_others Own f e ys m =
      let same : items e.marks ≡ items (e.marks ++ hidden ys) = sym (append-nil (items e.marks)) ∙ ap (λ l. items e.marks ++ l) (sym (none_hidden ys)) ∙ sym (items_both e.marks (hidden ys)) in
      record {
        stand = all_of (MarkStands p) (e.marks ++ hidden ys) (every-append (MarkStands p) e.marks (hidden ys) m.stand (hidden_stand ys));
        fit = subst (Every ItemFits) same (every_weaker (Comes p In Own None f e.followed) ItemFits (λ i o. o.fits) (items e.marks) m.each);
        differ = subst (Pairwise OtherPlace) same m.differ;
      }

  pub sources_there : AllStand p (source_marks p (called t))
  sources_there =
      let own = rest (positional (called t).it) in
      let first = expand_arguments p c (in_list c) own [] in
      let second = expand_arguments p c (λ n. fixed) (keyword sources_key (called t).it) first.followed in
      with_others (λ q. Unit {0}) [] (both_expanded first second) (keyword kwargs_key (called t).it)
      (both_once p In (one_region p c) (Region value_without_name 0) (Region (value_with_name sources_key) 0) (λ q. Unit {0}) (λ q u. tt) (λ q w. tt) (both_apart sources_key) None [] (λ x none. absurd cc) first second
      (arguments_once value_without_name (in_list c) (λ n. refl) own 0 [] (rest_rises 0 (positional (called t).it) (numbers_rise value_without_name t.arguments 0)) (every_rest (KeptAt value_without_name (in_list c)) (positional (called t).it) positional_at))
      (keyword_once sources_key first.followed))

  pub extras_there : AllStand p (extra_marks p (called t))
  extras_there =
      let e = expand_arguments p c (λ n. fixed) (keyword extra_key (called t).it) [] in
      subst (AllStand p) (append-nil e.marks) (with_others (Region (value_with_name extra_key) 0) [] e [] (keyword_once extra_key []))

-- ---- in files that are read

-- the sources and the extra files of a target
pub record FilesStand (p : Project Span) (c : Placed (Call Span)) : Type 0 where
  pub sources : AllStand p (source_marks p c)
  pub extras : AllStand p (extra_marks p c)

pub files_stand : (old : Loaded) → AreParsed old.files old.parsed → (id : CallName) (c : Placed (Call Span)) → the_call (project old) role.Target id ≡ Ok c → FilesStand (project old) c
files_stand old are id c found =
    let p = project old in
    let t = target_at p id c found in
    let no_list = target_no_files t.it.name.text (listing t.it.brackets t.it.trailing t.it.arguments) t.is_target in
    let levels = parsed_level old.files old.parsed are in
    subst (FilesStand p) t.is (record { sources = sources_there p levels c.place t.it no_list; extras = extras_there p levels c.place t.it no_list })

-- The arguments of a target without a name, and those of its sources.
pub record ArgumentsStand (p : Project Span) (c : Placed (Call Span)) : Type 0 where
  pub without_name : Every (λ a. ElementAt p c.place a.number a.value) (positional c.it)
  pub of_sources : Every (λ a. expression_at p (child c.place a.number) ≡ Some a.value) (keyword sources_key c.it)

pub arguments_stand : (old : Loaded) → AreParsed old.files old.parsed → (id : CallName) (c : Placed (Call Span)) → the_call (project old) role.Target id ≡ Ok c
    → ArgumentsStand (project old) c
arguments_stand old are id c found =
    let p = project old in
    let t = target_at p id c found in
    let no_list = target_no_files t.it.name.text (listing t.it.brackets t.it.trailing t.it.arguments) t.is_target in
    let levels = parsed_level old.files old.parsed are in
    let kept = KeptAt p levels c.place t.it no_list in
    subst (ArgumentsStand p) t.is
    (record {
      without_name = every_weaker (kept value_without_name (in_list c.place)) (λ a. ElementAt p c.place a.number a.value) (λ a k. k.stands) (positional (called t.it).it)
          (positional_at p levels c.place t.it no_list);
      of_sources = every_weaker (kept (value_with_name sources_key) (λ n. fixed)) (λ a. expression_at p (child c.place a.number) ≡ Some a.value) (λ a k. k.stands.is_at)
          (keyword sources_key (called t.it).it) (keyword_at p levels c.place t.it no_list sources_key);
    })

pub items-are-met-once : ItemsAreMetOnce
items-are-met-once old is id c found =
    let s = files_stand old is.parsed id c found in
    (all_pairs OtherPlace (items (source_marks (project old) c)) s.sources.differ, all_pairs OtherPlace (items (extra_marks (project old) c)) s.extras.differ)
