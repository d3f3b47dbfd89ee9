-- The call of a target after strings have gone from its lists of sources or of extra files.
use Rattle.meson_syntax.specs.declared.operator.Assignment.TheVariants as assignment
use Rattle.meson_calls.specs.declared.call.Role.TheVariants as role
use Rattle.meson_sources.proofs.Words.{All, Ok, ap, arith, Bool, false, inl, inr, List, None, refl, Some, subst, suc, sym, true, zero, ℕ, ◌+◌, ◌∙◌, ◌≡◌, value}
use Rattle.meson_sources.proofs.Words.{Span, a_statement, an_expression, LevelExpression, string_kind, nth, argument, Arguments, assign, call, erase_expression}
use Rattle.meson_sources.proofs.Words.{Expression, listing, Name, named, no_arguments, Nowhere, pair, Plain, plain, string, StringKind, child_nodes, Every}
use Rattle.meson_sources.proofs.Words.{map-some, call_of, the_call, Loaded, project, child, Placed, one_of, target_functions, CallRef, Item, literal_item}
use Rattle.meson_sources.proofs.Words.{max_followed, Stand, single, MayStandBetween, distinct, plain_trees, all_stepped, AreSpotsOf, goes, trees_without}
use Rattle.meson_sources.proofs.Words.{removal_steps, Spot, file_names, expression_without, from_child}
use Rattle.meson_sources.proofs.gone.Held.{CallFrom, FirstOf, IsSources, Held, SpotHeld, all_named, gone_held, same_there}
use Rattle.meson_sources.proofs.gone.Losses.{child_place, node_moved, place_left, Lost, gone_at, loses, strings_lost, EachLoses, Loses}
use Rattle.meson_sources.proofs.gone.Marks.{Left, slot_gone, stand_left, FirstStays, expand_left}
use Rattle.meson_sources.proofs.gone.Places.{any_without}
use Rattle.meson_sources.proofs.gone.Spots.{AreApart}
use Rattle.meson_sources.proofs.gone.Trees.{trees_left}
use Rattle.meson_sources.proofs.gone.Variables.{values_left}
use Rattle.meson_sources.proofs.met.Files.{NamedGoes}
use Rattle.meson_sources.proofs.met.Marks.{Values, bare_value, expand_with, values_of}
use Rattle.meson_sources.proofs.met.Standing.{StringIn}
use Rattle.meson_sources.proofs.met.Ways.{node_level, value_in}
use Rattle.meson_sources.proofs.told.FoundAgain.{Names}
use Rattle.meson_sources.proofs.told.Kept.{own_left, FirstIs, MayGo, first_stays, names_left, tells_left}
use Rattle.meson_sources.proofs.told.NamedAgain.{SetStays, named_again}
use Rattle.meson_sources.proofs.told.Targets.{by_bare, call_by, call_tells, first_plain, tell_call, SameNames}
use Rattle.meson_sources.proofs.told.Variables.{files_no_matter, target_no_files, target_no_matter}
use Rattle.meson_sources.proofs.trees.Calls.{CallIn, CallNode, bare_arguments, bare_form, called, stands_bare}
use Rattle.meson_sources.proofs.trees.Elements.{Node, element_any, string_child}
use Rattle.meson_sources.proofs.trees.Scenes.{NodeIn, SameTells}
use Rattle.meson_calls.specs.declared.call.CallName.{CallName}

-- where a place is after the elements at these spots have gone
abbrev pub moved_place : List Spot → CallRef → CallRef
moved_place spots c = place_left (goes spots) c

-- ---- the first argument without a name

pub first_of : (xs : Arguments Nowhere) (k : ℕ) → FirstOf (λ n. FirstIs k n xs) k xs
first_of no_arguments k = tt
first_of (argument (plain e) more) k = λ j is. omega (arith, is)
first_of (argument (named t x e) more) k = first_of more (k + 1)
first_of (argument (pair t e f) more) k = first_of more (k + 1)

pub literals : (values : Values) (left : ℕ) (q : StringKind) (x : List ℕ) (s : Stand) (f : List (List ℕ)) → expand_with values left (string tt q x) s f ≡ literal_item tt s f (value (string_kind q) x)
literals values zero q x s f = refl
literals values (suc left) q x s f = refl

-- ---- the target's call

module _ (old : Loaded) (stand : All MayStandBetween (plain_trees old)) (c : CallRef) (t : CallIn (project old) c) (target : one_of target_functions t.name.text ≡ true) where
  abbrev trees : List Plain
  trees = plain_trees old

  abbrev bare_xs : Arguments Nowhere
  bare_xs = bare_arguments t

  abbrev call_node : Expression Nowhere
  call_node = bare_form t

  pub at_call : NodeIn trees c (an_expression call_node)
  at_call = stands_bare old c t

  call_level : LevelExpression call_node
  call_level = node_level trees stand c call_node at_call

  -- what holds of each list of sources: it tells nothing of variables, if it is the call's, the element is not its first one, and so of any call of a target
  abbrev pub Fine : CallRef → ℕ → Node → Type 0
  Fine q n y = (q ≡ c → FirstIs 0 n bare_xs → ⊥) × MayGo y n

  not_call : (q : CallRef) (y : Node) → NodeIn trees q y → q ≡ c → y ≡ an_expression call_node
  not_call q y h same = same_there trees c (an_expression call_node) y at_call (subst (λ p. NodeIn trees p y) same h)

  pub fine : (q : CallRef) (n : ℕ) (y : Node) → NodeIn trees q y → IsSources y → Fine q n y
  fine q n y h (inl w) = (λ same first. let node = sym w.1 ∙ not_call q y h same in cc, subst (λ z. MayGo z n) (sym w.1) tt)
  fine q n y h (inr w) = (
    λ same first.
        let node : an_expression (call w.0 w.1 w.2) ≡ an_expression call_node = sym w.3 ∙ not_call q y h same in
        let name : w.1.text ≡ t.name.text = cc in
        let none = target_no_files w.1.text w.2 (ap (one_of target_functions) name ∙ target) in
        let both : true ≡ false = sym w.4 ∙ none in cc,
    subst (λ z. MayGo z n) (sym w.3) (files_no_matter w.1.text w.2 w.4, λ yea. let none = target_no_files w.1.text w.2 yea in let both : true ≡ false = sym w.4 ∙ none in absurd cc),
  )

  pub own_fine : (n : ℕ) → (FirstIs 0 n bare_xs → ⊥) → Fine c n (an_expression call_node)
  own_fine n other = (λ same. other, (target_no_matter t.name.text target, λ yea. other))

  pub values_stand : (x : List ℕ) (v : Placed (Expression Nowhere)) → values_of (project old) x ≡ Some v → NodeIn trees v.place (an_expression v.it) × LevelExpression v.it
  values_stand x v is =
      let m = map-some bare_value (single (project old) x) v is in
      let n = value_in old x m.0 m.0.place m.1 refl in
      subst (λ (w : Placed (Expression Nowhere)). NodeIn trees w.place (an_expression w.it) × LevelExpression w.it) m.2 (n, node_level trees stand m.0.place (erase_expression m.0.it) n)

  pub call_from : CallFrom trees Fine fine (values_of (project old)) values_stand c (an_expression call_node) at_call (λ n. FirstIs 0 n bare_xs) own_fine bare_xs 0 false
  call_from = record {
    level = call_level.1;
    children = λ j x is. let k : j ≡ 0 + j = omega arith in ap (nth (child_nodes (an_expression call_node))) (sym k) ∙ is;
    elements_are = λ j a is. let k : j ≡ 0 + j = omega arith in ap (element_any (an_expression call_node)) (sym k) ∙ is;
  }

  -- ---- after the removal

  module _ (new : Loaded) (same_names : file_names new ≡ file_names old) (names : List (List ℕ)) (is : List (Item Span)) (held : Every (Held trees Fine fine) is) (spots : List Spot) (of_names : AreSpotsOf is (distinct names) spots)
      (are : Every (StringIn trees) spots) (apart : AreApart spots) (done : all_stepped (removal_steps spots) trees ≡ Some (plain_trees new)) where
    abbrev after : List Plain
    after = plain_trees new

    abbrev pub gone : CallRef → ℕ → Bool
    gone = goes spots

    are_left : after ≡ trees_without spots trees
    are_left = trees_left spots trees after stand are apart done

    held_at : (q : CallRef) (n : ℕ) → gone q n ≡ true → SpotHeld trees Fine fine names is held spots of_names q n
    held_at = gone_held trees Fine fine names is held spots of_names

    lost : (q : CallRef) (n : ℕ) → gone q n ≡ true → (y : Node) → NodeIn trees q y → Lost y n
    lost q n is y h =
        let w = (held_at q n is).string_held in
        let same = same_there trees q w.held.node y w.held.is h in
        (plain (string tt w.kind w.word), ap (λ z. element_any z n) same ∙ w.held.element_is, record { kind = w.kind; word = w.word; text = (held_at q n is).text; is_string = refl; is_value = w.is_value })

    -- where what stood at a place stands now
    moved : (q : CallRef) (y : Node) → NodeIn trees q y → string_child y ≡ None → NodeIn after (place_left gone q) (any_without (gone_at gone q) y)
    moved q y h other = subst (λ ts. NodeIn ts (place_left gone q) (any_without (gone_at gone q) y)) (sym are_left) (node_moved trees stand gone (strings_lost trees gone lost) q y h other)

    may : (q : CallRef) (n : ℕ) → gone q n ≡ true → (y : Node) → NodeIn trees q y → MayGo y n
    may q n is y h =
        let w = (held_at q n is).string_held.held in
        subst (λ z. MayGo z n) (sym (same_there trees q w.node y w.is h)) w.is_fine.1

    names_stay : (i : ℕ) → SameNames (nth trees i) (nth after i)
    names_stay i = subst (λ ts. SameNames (nth trees i) (nth ts i)) (sym are_left) (names_left trees stand gone lost may i)

    pub first : FirstStays gone c 0 bare_xs
    first = first_stays gone c bare_xs 0 (λ n is. go n is (gone c n) refl)
      where
        go : (n : ℕ) → FirstIs 0 n bare_xs → (b : Bool) → gone c n ≡ b → b ≡ false
        go n is true has_gone = absurd ((held_at c n has_gone).string_held.held.is_fine.0 refl is)
        go n is false stays = refl

    pub record CallLeft : Type 0 where
      pub ys : Arguments Nowhere
      pub node : CallNode after (place_left gone c) ys
      pub same_name : node.name.text ≡ t.name.text
      pub each : EachLoses gone c 0 bare_xs ys

    pub call_left : CallLeft
    call_left =
        let o = loses trees gone lost call_node c call_level at_call in
        let m = o.4 in
        let at : NodeIn after (place_left gone c) (an_expression (call tt o.0 (listing tt m.0 m.1))) =
        subst (λ e. NodeIn after (place_left gone c) (an_expression e)) (o.2 ∙ ap (call tt o.0) m.2) (moved c (an_expression call_node) at_call refl) in
        record { ys = m.1; node = record { name = o.0; trailing = m.0; node = at }; same_name = o.3; each = m.3 }

    -- what is met in each expression then
    pub each_left : (e now : Expression Nowhere) (u : Stand) (g k : List (List ℕ)) → k ≡ g → slot_gone gone u.slot ≡ false → Loses gone u.place e now
        → Left gone (expand_with (values_of (project old)) max_followed e u g) (expand_with (values_of (project new)) max_followed now (stand_left gone u) k)
    each_left =
        let tells = λ (i : ℕ). subst (λ ts. SameTells (0 + i) (nth trees i) (nth ts i)) (sym are_left) (tells_left trees stand gone lost may i) in
        expand_left gone (values_of (project old)) (values_of (project new)) (values_left old new same_names tells stand gone lost are_left) max_followed

    pub are_named : Every (NamedGoes gone names) is
    are_named = all_named trees Fine fine names is held spots of_names

    -- an assignment stays where it has moved to
    set_left : (q : CallRef) (x : Name Nowhere) (v : Expression Nowhere) → c ≡ child q 0 → NodeIn trees q (a_statement (assign tt x assignment.Set v)) → SetStays after (place_left gone c) x.text
    set_left q x v is_place n =
        record {
          at = place_left gone q;
          is_place = ap (place_left gone) is_place ∙ child_place gone q 0;
          r = tt;
          name = x;
          value = expression_without (from_child 0 (gone_at gone q)) v;
          node = moved q (a_statement (assign tt x assignment.Set v)) n refl;
          same = refl;
        }

    -- the id of the call names it still, and it alone
    pub named_left : (id : CallName) → the_call (project old) role.Target id ≡ Ok (called t) → Names (project new) id (place_left gone c) (called t).it
    named_left id found_call =
        let k = call_left in
        let name = k.node.name in
        let node = call tt name (listing tt k.node.trailing k.ys) in
        let owns : tell_call (call_of node) ≡ tell_call (Some (called t).it) =
        call_tells name.text tt k.node.trailing k.ys ∙ ap (λ f. call_by f (first_plain k.ys)) k.same_name ∙ own_left gone c 0 t.name.text bare_xs k.ys first k.each ∙ by_bare t.name.text t.arguments
        ∙ sym (call_tells t.name.text t.brackets t.trailing t.arguments) in
        named_again old new same_names names_stay id (called t) found_call (place_left gone c) refl node k.node.node owns set_left
