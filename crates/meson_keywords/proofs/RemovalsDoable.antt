-- Tasks that take something away: values are removed from a keyword argument, and a default option is deleted.
use Rattle.meson_keywords.proofs.Words.{◌≡◌, ℕ, zero, suc, ◌+◌, ◌-◌, ◌<◌, ◌≤◌, true, false, List, [], ◌∷◌, ◌++◌, length, take, drop, Option, Some, None, refl}
use Rattle.meson_keywords.proofs.Words.{sym, ap, ◌∙◌, subst, arith, All, Bool, bytes_eq, cond, if◌then◌else◌, not, Result, Ok, Err, map, slice_set, filter}
use Rattle.meson_keywords.proofs.Words.{then_ok, nth, value_of, Nowhere, Plain, Expression, array, dictionary, Listing, Argument, plain, Remove, elements}
use Rattle.meson_keywords.proofs.Words.{element_removed, with_elements, with_value, Numbered, child, CallRef, Refusal, NotLiteral, MayStandBetween, Step}
use Rattle.meson_keywords.proofs.Words.{step_in, Container, array_container, dictionary_container, exchanged_at, elements_with, CallStands, Holds, OptionIs}
use Rattle.meson_keywords.proofs.Words.{held_elements, held_in, holds, is_of, value_of_option, values_of, all_of_kind, keyword_in, one_at_most, passing}
use Rattle.meson_keywords.proofs.Words.{remove_by_shape, remove_equal, remove_lone, remove_there, removed_from, says, value_shape, text_in, delete_by_shape}
use Rattle.meson_keywords.proofs.Words.{delete_by_value, delete_lone, delete_option_there, entries, has_key, is_entry, is_entry_element, keys_known, of_list}
use Rattle.meson_keywords.proofs.Words.{of_lone, options_key, task_steps, remove, delete_option, ElementKind}
use Rattle.meson_keywords.specs.declared.value_kinds.ElementKind.TheVariants as element
use Rattle.meson_calls.specs.Calls as calls
use Rattle.meson_keywords.proofs.ArrayEdits.{HoldsAs, gone_step, holds_same, more_hold, still_there, value_put}
use Rattle.meson_keywords.proofs.CallEdits.{elements_are, none_leaves, one_leaves, remove_step, xs}
use Rattle.meson_keywords.proofs.Does.{Does, TaskDoes, does}
use Rattle.meson_keywords.proofs.KeptArguments.{OneNamed, gone_others, gone_value, is_it, it, none_there, one_named, value_there}
use Rattle.meson_keywords.proofs.PassingElements.{entry_tests, key_tests, kept_again, left_after, none_left, passing_gone}
use Rattle.meson_keywords.proofs.TasksDoable.{holds_these, lone_held}

-- ---- elements by their numbers

-- each number is one of an element of a list of so many, from which those before have gone
abbrev pub Left : (gone many : ℕ) → List ℕ → Type 0
Left gone many [] = Unit {0}
Left gone many (n ∷ ns) = (n - gone < many) × Left (suc gone) (many - 1) ns

left_by : (start gone many : ℕ) → gone ≤ start → (ns : List ℕ) → Left (suc gone) (suc start - suc gone + many) ns → Left gone (suc start - gone + many) ns → (b : Bool)
    → Left gone (start - gone + suc many) (if b then start ∷ ns else ns)
left_by start gone many before ns next same true =
    let fewer : suc start - suc gone + many ≡ start - gone + suc many - 1 = omega (arith, before) in
    (omega (arith, before), subst (λ m. Left (suc gone) m ns) fewer next)
left_by start gone many before ns next same false =
    let as_many : suc start - gone + many ≡ start - gone + suc many = omega (arith, before) in
    subst (λ m. Left gone m ns) as_many same

pub passing_left : {A : Type 0} (test : A → Bool) (ys : List A) (start gone : ℕ) → gone ≤ start → Left gone (start - gone + length ys) (passing test start ys)
passing_left test [] start gone before = tt
passing_left test (y ∷ ys) start gone before =
    left_by start gone (length ys) before (passing test (suc start) ys) (passing_left test ys (suc start) (suc gone) (omega (arith, before))) (passing_left test ys (suc start) gone (omega (arith, before))) (test y)

nth_within : {A : Type 0} (ys : List A) (n : ℕ) → n < length ys → (y : A) × (nth ys n ≡ Some y)
nth_within [] n within = absurd (omega (arith, within))
nth_within (y ∷ ys) zero within = (y, refl)
nth_within (y ∷ ys) (suc n) within = nth_within ys n (omega (arith, within))

one_fewer : {A : Type 0} (ys : List A) (n : ℕ) → n < length ys → length (take n ys ++ drop (suc n) ys) ≡ length ys - 1
one_fewer [] n within = absurd (omega (arith, within))
one_fewer (y ∷ ys) zero within = omega arith
one_fewer (y ∷ ys) (suc n) within = let below : n < length ys = omega (arith, within) in omega (arith, one_fewer ys n below, below)

pub removes_hold : (k : Container) (c : CallRef) (ns : List ℕ) (gone : ℕ) (trees : List Plain) (all : All MayStandBetween trees) (s : CallStands c trees) (n : ℕ) (a : Argument Nowhere) (l : Listing Nowhere) → nth (xs c trees all s) n ≡ Some a → value_of a ≡ Some (k.make l)
    → Left gone (length (elements l)) ns → HoldsAs k c (removed_from (child c n) gone ns) trees n a (xs c trees all s) (left_after gone ns (elements l))
removes_hold k c [] gone trees all s n a l there value left = holds_same k c trees all s n a l there value
removes_hold k c (m ∷ ns) gone trees all s n a l there value left =
    let it = nth_within (elements l) (m - gone) left.0 in
    let st = gone_step k c trees all s n a l there value (m - gone) it.0 it.1 in
    let ys = element_removed (m - gone) (elements l) it.0 in
    let now = with_elements l ys in
    let b = with_value (k.make now) a in
    let after = slice_set trees c.file st.now in
    let outer = xs c after st.all_stand st.stands in
    let many : length (elements l) - 1 ≡ length (elements now) = sym (ap length (elements_with l ys) ∙ one_fewer (elements l) (m - gone) left.0) in
    let later = removes_hold k c ns (suc gone) after st.all_stand st.stands n b now (still_there c trees all s n a there (Remove (c.path.steps ++ n ∷ []) (m - gone)) (k.make now) st) (value_put a (k.make l) (k.make now) value)
    (subst (λ m. Left (suc gone) m ns) many left.1) in
    more_hold c trees all s n a there (Remove (c.path.steps ++ n ∷ []) (m - gone)) (k.make now) st k (removed_from (child c n) (suc gone) ns) (left_after gone (m ∷ ns) (elements l))
    (subst (λ zs. HoldsAs k c (removed_from (child c n) (suc gone) ns) after n b outer (left_after (suc gone) ns zs)) (elements_with l ys) later)

-- the elements that pass a test go
passing_hold : (k : Container) (test : Argument Nowhere → Bool) (c : CallRef) (trees : List Plain) (all : All MayStandBetween trees) (s : CallStands c trees) (n : ℕ) (a : Argument Nowhere) (l : Listing Nowhere) → nth (xs c trees all s) n ≡ Some a
    → value_of a ≡ Some (k.make l) → HoldsAs k c (removed_from (child c n) 0 (passing test 0 (elements l))) trees n a (xs c trees all s) (filter (λ x. not (test x)) (elements l))
passing_hold k test c trees all s n a l there value =
    let many : 0 - 0 + length (elements l) ≡ length (elements l) = omega arith in
    subst (HoldsAs k c (removed_from (child c n) 0 (passing test 0 (elements l))) trees n a (xs c trees all s)) (passing_gone test (elements l) 0 [])
    (removes_hold k c (passing test 0 (elements l)) 0 trees all s n a l there value (subst (λ m. Left 0 m (passing test 0 (elements l))) many (passing_left test (elements l) 0 0 (omega arith))))

-- ---- values removed

abbrev pub done_with : List Step → Result (List Step) Refusal
done_with steps = Ok steps

module _ (key : List ℕ) (k : ElementKind) (wanted : List ℕ) (c : CallRef) (trees : List Plain) (all : All MayStandBetween trees) (s : CallStands c trees) (steps : List Step) where
  abbrev outer : List (Argument Nowhere)
  outer = xs c trees all s

  abbrev other : Argument Nowhere → Bool
  other x = not (says k wanted x)

  -- what the argument holds then, by the values that it has
  abbrev fewer : List (Expression Nowhere) → List (Argument Nowhere)
  fewer vs = filter other (held_in vs)

  -- nothing is done where nothing is held that is equal
  same_holds : (vs : List (Expression Nowhere)) → values_of key outer ≡ vs → held_in vs ≡ fewer vs → [] ≡ steps → Does (remove key k wanted) c trees steps
  same_holds vs is none same =
      let whole : holds key outer ≡ fewer (values_of key outer) = ap held_in is ∙ none ∙ ap fewer (sym is) in
      subst (Does (remove key k wanted) c trees) same (does (remove key k wanted) c trees all s [] outer (none_leaves c trees all s) (record { holds = whole; others = refl }))

  module _ (n : ℕ) (e : Expression Nowhere) (o : OneNamed key outer n e) where
    abbrev a : Argument Nowhere
    a = it key outer n e o

    lone_by : (b : Bool) → says k wanted (plain e) ≡ b → held_elements e ≡ plain e ∷ [] → done_with (if b then step_in c (Remove c.path.steps n) ∷ [] else []) ≡ Ok steps → Does (remove key k wanted) c trees steps
    lone_by true is lone h =
        let same : step_in c (Remove c.path.steps n) ∷ [] ≡ steps = cc in
        let nothing : [] ≡ fewer (values_of key outer) = sym (ap fewer (value_there key outer n e o) ∙ ap (filter other) lone ∙ ap (λ t. cond (not t) (plain e ∷ []) []) is) in
        subst (Does (remove key k wanted) c trees) same
        (does (remove key k wanted) c trees all s _ _ (one_leaves c trees all s (Remove c.path.steps n) _ (remove_step c trees all s n a (is_it key outer n e o)))
        (record { holds = ap held_in (gone_value key outer n e o) ∙ nothing; others = gone_others key outer n e o }))
    lone_by false is lone h =
        let same : [] ≡ steps = cc in
        let all_stay : held_elements e ≡ filter other (held_elements e) = lone ∙ sym (ap (filter other) lone ∙ ap (λ t. cond (not t) (plain e ∷ []) []) is) in
        same_holds (e ∷ []) (value_there key outer n e o) all_stay same

    remove_from_lone : (t : Option (List ℕ)) → text_in k e ≡ t → remove_lone c n key wanted t ≡ Ok steps → Does (remove key k wanted) c trees steps
    remove_from_lone None is h = absurd cc
    remove_from_lone (Some text) is h = lone_by (bytes_eq wanted text) (ap (calls.is wanted) is) (lone_held k e text is) h

    removed_as : (made : List Step) → HoldsAs array_container c made trees n a outer (fewer (e ∷ [])) → made ≡ steps → Does (remove key k wanted) c trees steps
    removed_as made h same =
        let whole : fewer (e ∷ []) ≡ fewer (values_of key outer) = ap fewer (sym (value_there key outer n e o)) in
        let after = exchanged_at n a outer (array h.list) in
        subst (Does (remove key k wanted) c trees) same
        (does (remove key k wanted) c trees all s made after h.leaves (subst (λ zs. Holds key zs outer after) whole (holds_these key array_container (λ l. refl) c made trees outer (fewer (e ∷ [])) n e o h)))

    nothing_by : (known : Bool) → HoldsAs array_container c [] trees n a outer (fewer (e ∷ [])) → (if known then done_with [] else Err (NotLiteral key)) ≡ Ok steps → Does (remove key k wanted) c trees steps
    nothing_by true hold h = removed_as [] hold cc
    nothing_by false hold h = absurd cc

    remove_from_array : (known : Bool) (ns : List ℕ) → HoldsAs array_container c (removed_from (child c n) 0 ns) trees n a outer (fewer (e ∷ [])) → remove_equal (child c n) key known ns ≡ Ok steps → Does (remove key k wanted) c trees steps
    remove_from_array known [] hold h = nothing_by known hold h
    remove_from_array known (m ∷ ns) hold h = removed_as (removed_from (child c n) 0 (m ∷ ns)) hold cc

  remove_value : (n : ℕ) (e : Expression Nowhere) (o : OneNamed key outer n e) → remove_by_shape c n key k wanted (text_in k e) (value_shape e) ≡ Ok steps → Does (remove key k wanted) c trees steps
  remove_value n (array l) o h =
      remove_from_array n (array l) o (all_of_kind k (elements l)) (passing (says k wanted) 0 (elements l))
      (passing_hold array_container (says k wanted) c trees all s n (it key outer n (array l) o) l (is_it key outer n (array l) o) refl) h
  remove_value n e o h = remove_from_lone n e o (text_in k e) refl h

  remove_by : (vs : List (Numbered (Expression Nowhere))) → keyword_in key outer ≡ vs → then_ok (one_at_most key vs) (remove_there c key k wanted) ≡ Ok steps → Does (remove key k wanted) c trees steps
  remove_by [] none h = same_holds [] (none_there key outer none) refl cc
  remove_by (v ∷ []) there h = remove_value v.number v.value (one_named key outer v there) h
  remove_by (v ∷ w ∷ more) there h = absurd cc

pub remove_does : (key : List ℕ) (k : ElementKind) (wanted : List ℕ) → TaskDoes (remove key k wanted)
remove_does key k wanted c trees all s steps made =
    remove_by key k wanted c trees all s steps (keyword_in key (xs c trees all s)) refl (sym (ap (task_steps (remove key k wanted) c) (elements_are c trees all s)) ∙ made)

-- ---- an option deleted

pub of_list_known : (known : Bool) (made steps : List Step) → of_list known made ≡ Ok steps → (known ≡ true) × (made ≡ steps)
of_list_known true made steps h = (refl, cc)
of_list_known false made steps h = absurd cc

module _ (name : List ℕ) (c : CallRef) (trees : List Plain) (all : All MayStandBetween trees) (s : CallStands c trees) (steps : List Step) where
  abbrev arguments : List (Argument Nowhere)
  arguments = xs c trees all s

  abbrev kept : List (Argument Nowhere) → List (Argument Nowhere)
  kept ys = filter (λ x. not (is_of name x)) ys

  -- the entries of the option, of which none is left, and the other ones
  gone_is : (bs : List (Argument Nowhere)) → holds options_key arguments ≡ bs → (after : List (Argument Nowhere)) → Holds options_key (kept bs) arguments after → OptionIs name [] arguments after
  gone_is bs is after h = record {
    values = ap (λ ys. map value_of_option (filter (is_of name) ys)) h.holds ∙ ap (map value_of_option) (none_left (is_of name) bs);
    entries = ap kept h.holds ∙ kept_again (is_of name) bs ∙ ap kept (sym is);
    arguments = h.others;
  }

  deleted : (made : List Step) (n : ℕ) (e : Expression Nowhere) (o : OneNamed options_key arguments n e) (k : Container) → ((l : Listing Nowhere) → held_elements (k.make l) ≡ elements l)
      → HoldsAs k c made trees n (it options_key arguments n e o) arguments (kept (held_elements e)) → made ≡ steps → Does (delete_option name) c trees steps
  deleted made n e o k all_held h same =
      subst (Does (delete_option name) c trees) same
      (does (delete_option name) c trees all s made _ h.leaves
      (gone_is (held_elements e) (ap held_in (value_there options_key arguments n e o)) _ (holds_these options_key k all_held c made trees arguments (kept (held_elements e)) n e o h)))

  nothing_gone : (bs : List (Argument Nowhere)) → holds options_key arguments ≡ bs → bs ≡ kept bs → [] ≡ steps → Does (delete_option name) c trees steps
  nothing_gone bs is all_stay same =
      subst (Does (delete_option name) c trees) same
      (does (delete_option name) c trees all s [] arguments (none_leaves c trees all s) (gone_is bs is arguments (record { holds = is ∙ all_stay; others = refl })))

  module _ (n : ℕ) (e : Expression Nowhere) (o : OneNamed options_key arguments n e) where
    lone_deleted : (text : List ℕ) → text_in element.Text e ≡ Some text → (b : Bool) → is_entry name (text_in element.Text e) ≡ b → delete_lone c n b ≡ steps → Does (delete_option name) c trees steps
    lone_deleted text lone true is same =
        let one = lone_held element.Text e text lone in
        let nothing : kept (held_elements e) ≡ [] = ap kept one ∙ ap (λ t. cond (not t) (plain e ∷ []) []) is in
        subst (Does (delete_option name) c trees) same
        (does (delete_option name) c trees all s _ _ (one_leaves c trees all s (Remove c.path.steps n) _ (remove_step c trees all s n (it options_key arguments n e o) (is_it options_key arguments n e o)))
        (gone_is (held_elements e) (ap held_in (value_there options_key arguments n e o)) _ (record { holds = ap held_in (gone_value options_key arguments n e o) ∙ sym nothing; others = gone_others options_key arguments n e o })))
    lone_deleted text lone false is same =
        let one = lone_held element.Text e text lone in
        nothing_gone (held_elements e) (ap held_in (value_there options_key arguments n e o)) (one ∙ sym (ap kept one ∙ ap (λ t. cond (not t) (plain e ∷ []) []) is)) same

    lone_by_text : (t : Option (List ℕ)) → text_in element.Text e ≡ t → of_lone t (delete_lone c n (is_entry name (text_in element.Text e))) ≡ Ok steps → Does (delete_option name) c trees steps
    lone_by_text None is h = absurd cc
    lone_by_text (Some text) is h = lone_deleted text is (is_entry name (text_in element.Text e)) refl cc

  delete_value : (n : ℕ) (e : Expression Nowhere) (o : OneNamed options_key arguments n e) → delete_by_shape c n name (text_in element.Text e) (value_shape e) ≡ Ok steps → Does (delete_option name) c trees steps
  delete_value n (array l) o h =
      let known = of_list_known (all_of_kind element.Text (elements l)) (removed_from (child c n) 0 (passing (is_entry_element name) 0 (elements l))) steps h in
      let same = ap (removed_from (child c n) 0) (sym (entry_tests name (elements l) 0 known.0)) ∙ known.1 in
      deleted _ n (array l) o array_container (λ m. refl)
      (passing_hold array_container (is_of name) c trees all s n (it options_key arguments n (array l) o) l (is_it options_key arguments n (array l) o) refl) same
  delete_value n e o h = lone_by_text n e o (text_in element.Text e) refl h

  delete_any : (n : ℕ) (e : Expression Nowhere) (o : OneNamed options_key arguments n e) → delete_by_value c n name e (entries e) ≡ Ok steps → Does (delete_option name) c trees steps
  delete_any n (dictionary l) o h =
      let known = of_list_known (keys_known (elements l)) (removed_from (child c n) 0 (passing (has_key name) 0 (elements l))) steps h in
      let same = ap (removed_from (child c n) 0) (sym (key_tests name (elements l) 0 known.0)) ∙ known.1 in
      deleted _ n (dictionary l) o dictionary_container (λ m. refl)
      (passing_hold dictionary_container (is_of name) c trees all s n (it options_key arguments n (dictionary l) o) l (is_it options_key arguments n (dictionary l) o) refl) same
  delete_any n e o h = delete_value n e o h

  delete_by : (vs : List (Numbered (Expression Nowhere))) → keyword_in options_key arguments ≡ vs → then_ok (one_at_most options_key vs) (delete_option_there c name) ≡ Ok steps → Does (delete_option name) c trees steps
  delete_by [] none h = nothing_gone [] (ap held_in (none_there options_key arguments none)) refl cc
  delete_by (v ∷ []) there h = delete_any v.number v.value (one_named options_key arguments v there) h
  delete_by (v ∷ w ∷ more) there h = absurd cc

pub delete_option_does : (name : List ℕ) → TaskDoes (delete_option name)
delete_option_does name c trees all s steps made =
    delete_by name c trees all s steps (keyword_in options_key (xs c trees all s)) refl (sym (ap (task_steps (delete_option name) c) (elements_are c trees all s)) ∙ made)
