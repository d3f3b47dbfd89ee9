-- The steps that remove or replace elements in all values that are assigned to a variable: they may be done, and what they leave.
use Rattle.std.proofs.Common.{◌≡◌, ℕ, ◌+◌, ◌-◌, ◌≤◌, suc, true, false, List, [], ◌∷◌, ◌++◌, Option, Some, None, Result, Ok, Err, refl, sym, ap, ◌∙◌, subst, arith, inl, inr, leb-true}
use Rattle.std.specs.Prelude.{Bool, ◌⊎◌, if◌then◌else◌}
use Rattle.std.specs.List.{list_all, list_any}
use Rattle.meson_lex.specs.declared.kinds.Span.{Span}
use Rattle.meson_splice.specs.Files.{bytes_at}
use Rattle.meson_splice.specs.Patch.{then_ok}
use Rattle.meson_syntax.specs.Grammar.{expression_depth}
use Rattle.meson_syntax.specs.Tree.{Expression, Nowhere, Plain, erase_expression}
use Rattle.meson_syntax.proofs.parsing.Steps.{some-injective}
use Rattle.meson_syntax.proofs.paths.Every.{Every}
use Rattle.meson_edit.specs.Edits.{is_empty}
use Rattle.meson_calls.specs.declared.call.CallRef.{CallRef}
use Rattle.meson_calls.specs.declared.refusal.Refusal.{Refusal}
use Rattle.meson_calls.specs.declared.refusal.Refusal.TheVariants.{NoSuchValue, NotRemovable, ThereAlready}
use Rattle.meson_calls.specs.Loading.{IsProject, Loaded, project}
use Rattle.meson_calls.specs.Project.{expression_at}
use Rattle.meson_steps.specs.GivenWords.{MayBeGiven}
use Rattle.meson_steps.specs.ListSteps.{AreDoable}
use Rattle.meson_steps.specs.ResultLimits.{plain_trees}
use Rattle.meson_steps.specs.Steps.{Step, all_stepped}
use Rattle.meson_steps.specs.declared.argument.ValueName.{ValueName}
use Rattle.meson_steps.specs.declared.given.Given.{Given}
use Rattle.meson_steps.proofs.PlainTrees.{parsed_shallow, trees_stand}
use Rattle.meson_places.specs.declared.slots.Slot.{Slot}
use Rattle.meson_places.specs.AllAssigned.{all_assigned, alone_at, each_edited, remove_each, replace_among, replace_each, said_among, said_at, said_in, says_by, then_more}
use Rattle.meson_places.specs.AssignedEffects.{EachExchanged, EachLost, exchanged_by, IsNamed, RemovesFromEach, ReplacesInEach, with_exchanged, without_said}
use Rattle.meson_places.specs.AssignedValues.{above, around, assign_steps, assigned_room}
use Rattle.meson_places.specs.Behind.{lists_at, lists_in}
use Rattle.meson_places.specs.Expressions.{EachIs}
use Rattle.meson_places.specs.Replacements.{Exchange, exchange, have_room, if_assigned, replace_by, replace_whole}
use Rattle.meson_places.specs.SaidElements.{lists_edited, says_one}
use Rattle.meson_places.specs.ValueLists.{ValueList, lists_of}
use Rattle.meson_places.specs.Values.{given_node}
use Rattle.meson_places.proofs.AllPlaced.{all_there, AllThere, Value}
use Rattle.meson_places.proofs.Refused.{ok_then}
use Rattle.meson_places.proofs.AssignedPlaced.{Placed, was_low}
use Rattle.meson_places.proofs.EachMade.{all_made, AllMade, AreMade, lists_bound, Makes, makes_alone, makes_gone, makes_nothing, makes_other, One, StandsIn, tree_low}
use Rattle.meson_places.proofs.GivenWritten.{given_level, given_written}
use Rattle.meson_places.proofs.LinesWritten.{line_written}
use Rattle.meson_places.proofs.SaidDoable.{AssignedBecomes, assigned_how, done_alone, said_how}

module _ (l : Loaded) (is : IsProject l) where
  abbrev before : List Plain
  before = plain_trees l

  module _ (make : CallRef → Expression Span → Expression Nowhere) where
    stand : (cs : List CallRef) → Every (Value l) cs → Every (StandsIn l make before) cs
    stand [] values = tt
    stand (c ∷ cs) values = (
      λ e at_. subst (λ x. Placed before c (erase_expression x)) (some-injective _ _ (sym values.0.is_it ∙ at_)) values.0.placed,
      stand cs values.1,
    )

    pub made_of_all : (cs : List CallRef) (steps : List Step) → AllThere l cs → AreMade l make cs steps → AllMade l make cs steps before
    made_of_all cs steps all are = all_made l make cs steps are all.apart before (trees_stand l.files l.parsed is.parsed) (parsed_shallow l.files l.parsed is.parsed) (stand cs all.values)

    pub all_doable : (cs : List CallRef) (steps : List Step) → AllThere l cs → AreMade l make cs steps → AreDoable steps before
    all_doable cs steps all are = let m = made_of_all cs steps all are in done_alone steps before m.after m.done

    pub all_left : (cs : List CallRef) (steps : List Step) → AllThere l cs → AreMade l make cs steps → (after : List Plain) → all_stepped steps before ≡ Some after → EachIs (project l) make cs before after
    all_left cs steps all are after done =
        let m = made_of_all cs steps all are in
        let both : Some m.after ≡ Some after = sym m.done.made ∙ done in
        let same : m.after ≡ after = cc in
        subst (EachIs (project l) make cs before) same m.is

  -- ---- removed

  module _ (gs : List Given) where
    removed_are : (cs : List CallRef) → Every (Value l) cs → AreMade l (without_said l gs) cs (each_edited l gs cs)
    removed_are [] values = refl
    removed_are (c ∷ cs) values =
        let v = values.0 in
        let test = says_one (bytes_at c.file l.files) gs in
        let own : lists_edited None test (lists_of c v.it) ≡ lists_edited None test (lists_at (project l) c) = ap (λ o. lists_edited None test (lists_in c o)) (sym v.is_it) in (
          lists_edited None test (lists_at (project l) c),
          each_edited l gs cs,
          refl,
          record { it = v.it; is_it = v.is_it; makes = subst (Makes c (erase_expression v.it) (without_said l gs c v.it)) own (makes_gone c v.it test) },
          removed_are cs values.1,
        )

    record EachGoes (cs : List CallRef) (steps : List Step) : Type 0 where
      all_said : list_all (said_among l.files (project l) cs) gs ≡ true
      none_alone : list_any (alone_at l.files (project l) gs) cs ≡ false
      are : each_edited l gs cs ≡ steps

    removed_how : (key : List ℕ) (cs : List CallRef) (steps : List Step) → remove_each l key gs cs ≡ Ok steps → EachGoes cs steps
    removed_how key cs steps made = go (list_all (said_among l.files (project l) cs) gs) (list_any (alone_at l.files (project l) gs) cs) refl refl made
      where
        all : List Step
        all = each_edited l gs cs

        go : (a b : Bool) → list_all (said_among l.files (project l) cs) gs ≡ a → list_any (alone_at l.files (project l) gs) cs ≡ b
            → (if a then (if b then Err NotRemovable else Ok all) else Err (NoSuchValue key)) ≡ Ok steps → EachGoes cs steps
        go true false said alone h = record { all_said = said; none_alone = alone; are = let same : all ≡ steps = cc in same }
        go true true said alone h = absurd (let no : ⊥ = cc in no)
        go false b said alone h = absurd (let no : ⊥ = cc in no)

    made_removed : (key : List ℕ) (cs : List CallRef) (steps : List Step) → remove_each l key gs cs ≡ Ok steps → AllThere l cs → AreMade l (without_said l gs) cs steps
    made_removed key cs steps made all = subst (AreMade l (without_said l gs) cs) (removed_how key cs steps made).are (removed_are cs all.values)

    pub each_removed_doable : (key : List ℕ) (cs : List CallRef) (steps : List Step) → remove_each l key gs cs ≡ Ok steps → AllThere l cs → AreDoable steps before
    each_removed_doable key cs steps made all = all_doable (without_said l gs) cs steps all (made_removed key cs steps made all)

    pub each_removed : (key : List ℕ) (cs : List CallRef) (steps : List Step) → remove_each l key gs cs ≡ Ok steps → AllThere l cs → (after : List Plain) → all_stepped steps before ≡ Some after → EachLost l gs cs before after
    each_removed key cs steps made all after done =
        let h = removed_how key cs steps made in
        record { all_said = h.all_said; none_alone = h.none_alone; now = all_left (without_said l gs) cs steps all (made_removed key cs steps made all) after done }

  -- ---- replaced

  module _ (was new : Given) (may : MayBeGiven new) (key : List ℕ) where
    abbrev x : Exchange
    x = exchange was new may

    abbrev make : CallRef → Expression Span → Expression Nowhere
    make = with_exchanged l was (given_node new may)

    -- one that does not say the old value
    other_made : (c : CallRef) (v : Value l c) → said_at l.files (project l) was c ≡ false → Makes c (erase_expression v.it) (make c v.it) []
    other_made c v unsaid =
        let source = bytes_at c.file l.files in
        let says : says_by source was v.it (lists_of c v.it) ≡ false = sym (ap (said_in source was c) v.is_it) ∙ unsaid in
        let same : make c v.it ≡ erase_expression v.it = ap (λ b. if b then exchanged_by source was (given_node new may) v.it (lists_of c v.it) else erase_expression v.it) says in
        subst (λ now. Makes c (erase_expression v.it) now []) (sym same) (makes_nothing c (erase_expression v.it))

    -- one that does
    one_made : (c : CallRef) (v : Value l c) → said_at l.files (project l) was c ≡ true → (own : List Step) → replace_whole l x key c (expression_at (project l) c) ≡ Ok own → Makes c (erase_expression v.it) (make c v.it) own
    one_made c v said own made = go (lists_of c v.it) refl (sym (ap (replace_whole l x key c) v.is_it) ∙ made)
      where
        e : Expression Span
        e = v.it

        source : List ℕ
        source = bytes_at c.file l.files

        is_made : (ls : List (ValueList Span)) → lists_of c e ≡ ls → make c e ≡ exchanged_by source was (given_node new may) e ls
        is_made ls same =
            let says : says_by source was e (lists_of c e) ≡ true = sym (ap (said_in source was c) v.is_it) ∙ said in
            ap (λ b. if b then exchanged_by source was (given_node new may) e (lists_of c e) else erase_expression e) says ∙ ap (exchanged_by source was (given_node new may) e) same

        go : (ls : List (ValueList Span)) → lists_of c e ≡ ls → replace_by l key source x (if_assigned l key x c e) ls ≡ Ok own → Makes c (erase_expression e) (make c e) own
        go [] same h =
            let k : AssignedBecomes l source x c e own = assigned_how l key x c e own h in
            let low = was_low before c (erase_expression e) v.placed in
            let shallow = tree_low before c (erase_expression e) v.placed (parsed_shallow l.files l.parsed is.parsed) in
            let fits = leb-true (expression_depth x.written.node) (64 - around (above c.path.steps)) k.room in
            let bound : around (above c.path.steps) + expression_depth x.written.node ≤ 64 = omega (arith, fits, low, shallow) in
            subst (λ now. Makes c (erase_expression e) now own) (sym (is_made [] same))
            (subst (Makes c (erase_expression e) x.written.node) k.are (makes_alone c (erase_expression e) x.written (line_written new may k.line) (given_level new may) bound))
        go (one ∷ more) same h =
            let k = said_how l key source x (one ∷ more) refl own h in
            let bound = lists_bound l c e v.placed x.written.node (ap (have_room l x.written.node) same ∙ k.room) (ap is_empty same) in
            subst (λ now. Makes c (erase_expression e) now own) (sym (is_made (one ∷ more) same))
            (subst (Makes c (erase_expression e) (exchanged_by source was (given_node new may) e (one ∷ more))) (ap (lists_edited (Some x.written) (says_one source (was ∷ []))) same ∙ k.are)
            (makes_other c e (says_one source (was ∷ [])) x.written (given_written new may) (given_level new may) bound))

    replaced_are : (cs : List CallRef) (steps : List Step) → replace_among l key x cs ≡ Ok steps → Every (Value l) cs → AreMade l make cs steps
    replaced_are [] steps made values = cc
    replaced_are (c ∷ cs) steps made values = go (said_at l.files (project l) was c) refl made (replaced_are cs)
      where
        v : Value l c
        v = values.0

        first : Result (List Step) Refusal
        first = replace_whole l x key c (expression_at (project l) c)

        go : (b : Bool) → said_at l.files (project l) was c ≡ b → (if b then then_ok first (λ ss. then_more ss (replace_among l key x cs)) else replace_among l key x cs) ≡ Ok steps
            → ((ss : List Step) → replace_among l key x cs ≡ Ok ss → Every (Value l) cs → AreMade l make cs ss) → AreMade l make (c ∷ cs) steps
        go false says h rest = ([], steps, refl, record { it = v.it; is_it = v.is_it; makes = other_made c v says }, rest steps h values.1)
        go true says h rest =
            let own = ok_then first (λ ss. then_more ss (replace_among l key x cs)) steps h in
            let more = ok_then (replace_among l key x cs) (λ ss. Ok (own.0 ++ ss)) steps own.2 in
            let joined : Ok (own.0 ++ more.0) ≡ Ok steps = more.2 in
            (own.0, more.0, cc, record { it = v.it; is_it = v.is_it; makes = one_made c v says own.0 own.1 }, rest more.0 more.1 values.1)

    record EachBecomes (cs : List CallRef) (steps : List Step) : Type 0 where
      is_new : said_among l.files (project l) cs new ≡ false
      are : replace_among l key x cs ≡ Ok steps

    replaced_how : (cs : List CallRef) (steps : List Step) → replace_each l key x cs ≡ Ok steps → EachBecomes cs steps
    replaced_how cs steps made = go (said_among l.files (project l) cs new) refl made
      where
        go : (b : Bool) → said_among l.files (project l) cs new ≡ b → (if b then Err ThereAlready else replace_among l key x cs) ≡ Ok steps → EachBecomes cs steps
        go true said h = absurd (let no : ⊥ = cc in no)
        go false said h = record { is_new = said; are = h }

    made_replaced : (cs : List CallRef) (steps : List Step) → replace_each l key x cs ≡ Ok steps → AllThere l cs → AreMade l make cs steps
    made_replaced cs steps made all = replaced_are cs steps (replaced_how cs steps made).are all.values

    pub each_replaced_doable : (cs : List CallRef) (steps : List Step) → replace_each l key x cs ≡ Ok steps → AllThere l cs → AreDoable steps before
    each_replaced_doable cs steps made all = all_doable make cs steps all (made_replaced cs steps made all)

    pub each_replaced : (cs : List CallRef) (steps : List Step) → replace_each l key x cs ≡ Ok steps → AllThere l cs → (after : List Plain) → all_stepped steps before ≡ Some after → EachExchanged l was new cs before after
    each_replaced cs steps made all after done =
        record { may = may; is_new = (replaced_how cs steps made).is_new; now = all_left make cs steps all (made_replaced cs steps made all) after done }

-- ---- the laws

pub removes_from_each : RemovesFromEach
removes_from_each l is n s named gs cs found key steps made after done = (each_removed l is gs key cs steps made (all_there l n s named gs cs found) after done).now

pub replaces_in_each : ReplacesInEach
replaces_in_each l is n s named was new may cs found key steps made after done =
    all_left l is (with_exchanged l was (given_node new may)) cs steps (all_there l n s named (was ∷ []) cs found) (made_replaced l is was new may key cs steps made (all_there l n s named (was ∷ []) cs found)) after done
