-- The task that sets a default option of a call that stands.
use Rattle.meson_keywords.proofs.Words.{◌≡◌, ℕ, zero, suc, ◌+◌, ◌-◌, true, false, List, [], ◌∷◌, ◌++◌, append_assoc, length, length-append, map, take, drop}
use Rattle.meson_keywords.proofs.Words.{codes, Option, Some, None, refl, sym, ap, ap₂, ◌∙◌, subst, arith, All, Bool, if◌then◌else◌, not, Ok, slice_set, filter}
use Rattle.meson_keywords.proofs.Words.{take-append_seam, then_ok, literal, nth, value_of, Nowhere, Plain, Expression, array, dictionary, Listing, Argument}
use Rattle.meson_keywords.proofs.Words.{plain, named, pair, Replace, elements, with_elements, with_value, Numbered, child, CallRef, MayStandBetween, Step}
use Rattle.meson_keywords.proofs.Words.{step_in, string_of, written_text, Container, array_container, dictionary_container, elements_with, text_written}
use Rattle.meson_keywords.proofs.Words.{CallStands, Holds, TaskLeaves, held_elements, held_in, holds, is_of, value_of_option, put_behind, all_of_kind}
use Rattle.meson_keywords.proofs.Words.{behind_all, keyword_in, one_at_most, passing, removed_from, value_shape, text_in, entries, has_key, is_entry}
use Rattle.meson_keywords.proofs.Words.{is_entry_element, keys_known, of_lone, option_text, options_key, set_by_shape, set_by_value, set_in_dictionary}
use Rattle.meson_keywords.proofs.Words.{set_in_list, set_in_lone, set_option_there, written_pair, task_steps, before_equals, set_option, written_list}
use Rattle.meson_keywords.proofs.Words.{written_named}
use Rattle.std.proofs.Common.{IsUtf8}
use Rattle.std.specs.Char.{encode_utf8}
use Rattle.meson_keywords.specs.declared.value_kinds.ElementKind.TheVariants as element
use Rattle.meson_keywords.proofs.ArrayEdits.{HoldsAs, more_hold, put_step, puts_hold, still_there, swap_step, value_put, wrap_holds, holds_same}
use Rattle.meson_keywords.proofs.CallEdits.{elements_are, insert_step, inserted_leaves, one_leaves, replace_step, xs}
use Rattle.meson_keywords.proofs.Does.{Does, TaskDoes, does}
use Rattle.meson_steps.proofs.Identifiers.{identifier_true}
use Rattle.meson_keywords.proofs.KeptArguments.{OneNamed, come_others, come_value, drop_seam, is_it, it, none_there, nth_seam, one_named, put_others, put_value}
use Rattle.meson_keywords.proofs.KeptArguments.{value_there}
use Rattle.meson_keywords.proofs.NamedWritten.{named_written, pair_written}
use Rattle.meson_keywords.proofs.OptionEntries.{EntrySet, behind_set, first_put, lone_put, new_entry, new_pair, known_plain, known_pair}
use Rattle.meson_keywords.proofs.PassingElements.{FirstPasses, entry_tests, first_passes, key_tests, left_after, passing_gone}
use Rattle.meson_keywords.proofs.RemovalsDoable.{Left, of_list_known, passing_left, removes_hold}
use Rattle.meson_keywords.proofs.TasksDoable.{flat_text, holds_these, lone_held}
use Rattle.meson_keywords.proofs.TasksSoFar.{option_may}
use Rattle.meson_keywords.proofs.WrittenElements.{list_level, list_shallow, list_written}

wider : (gone many : ℕ) (ns : List ℕ) → Left (suc gone) (many - 1) ns → Left gone many ns
wider gone many [] left = tt
wider gone many (n ∷ ns) left = (omega (arith, left.0), wider (suc gone) (many - 1) ns left.1)

as_many : {A : Type 0} (ys : List A) (n : ℕ) (y z : A) → nth ys n ≡ Some y → length (take n ys ++ z ∷ drop (suc n) ys) ≡ length ys
as_many [] n y z is = absurd cc
as_many (x ∷ ys) zero y z is = refl
as_many (x ∷ ys) (suc n) y z is = ap suc (as_many ys n y z is)

default_text : IsUtf8 (codes "default_options")
unfolding encode_utf8
default_text = (codes "default_options", (refl, refl))

old_value : (name : List ℕ) (a : Argument Nowhere) → is_of name a ≡ true → (e : Expression Nowhere) × (value_of a ≡ Some e)
old_value name (plain e) is = (e, refl)
old_value name (named s x e) is = absurd cc
old_value name (pair s e f) is = (f, refl)

-- ---- the value of the first entry becomes a text, and then later ones go

module _ (k : Container) (name text : List ℕ) (utf8 : IsUtf8 text) (c : CallRef) (trees : List Plain) (all : All MayStandBetween trees) (s : CallStands c trees) (n : ℕ) (a : Argument Nowhere) (l : Listing Nowhere)
    (there : nth (xs c trees all s) n ≡ Some a) (value : value_of a ≡ Some (k.make l)) (m : ℕ) (more : List ℕ) (is : passing (is_of name) 0 (elements l) ≡ m ∷ more) where
  abbrev pub first : FirstPasses (is_of name) (elements l) 0 m more
  first = first_passes (is_of name) (elements l) 0 m more is

  abbrev new : Argument Nowhere
  new = with_value (string_of text) first.it

  abbrev put : List (Argument Nowhere)
  put = take m (elements l) ++ new ∷ drop (suc m) (elements l)

  at : m ≡ length first.front
  at = let number = first.number in omega (arith, number)

  is_first : nth (elements l) m ≡ Some first.it
  is_first = ap₂ nth first.joined at ∙ nth_seam first.front first.it first.back

  put_is : put ≡ (first.front ++ new ∷ []) ++ first.back
  put_is =
      ap₂ (λ i ys. take i ys ++ new ∷ drop (suc i) ys) at first.joined
      ∙ ap₂ (λ front back. front ++ new ∷ back) (take-append_seam first.front (first.it ∷ first.back)) (drop_seam first.front first.it first.back)
      ∙ sym (append_assoc first.front (new ∷ []) first.back)

  left_is : left_after 0 more put ≡ first.front ++ new ∷ filter (λ x. not (is_of name x)) first.back
  left_is =
      let counted : suc m ≡ 0 + length (first.front ++ new ∷ []) = omega (arith, at, length-append first.front (new ∷ [])) in
      ap₂ (left_after 0) (first.rest ∙ ap (λ i. passing (is_of name) i first.back) counted) put_is
      ∙ passing_gone (is_of name) first.back 0 (first.front ++ new ∷ [])
      ∙ append_assoc first.front (new ∷ []) (filter (λ x. not (is_of name x)) first.back)

  pub first_holds : HoldsAs k c (step_in (child c n) (Replace (child c n).path.steps m (written_text text)) ∷ removed_from (child c n) 0 more) trees n a (xs c trees all s)
      (first.front ++ with_value (string_of text) first.it ∷ filter (λ x. not (is_of name x)) first.back)
  first_holds =
      let old = old_value name first.it first.passes in
      let st = swap_step k c trees all s n a l there value m first.it old.0 (literal text) (string_of text) is_first old.1 (text_written text utf8) tt refl in
      let now = with_elements l put in
      let b = with_value (k.make now) a in
      let e = Replace (c.path.steps ++ n ∷ []) m (written_text text) in
      let after = slice_set trees c.file st.now in
      let len : 0 - 0 + length (elements l) ≡ length (elements l) = omega arith in
      let whole : Left 0 (length (elements l)) (m ∷ more) = subst (λ j. Left 0 j (m ∷ more)) len (subst (Left 0 (0 - 0 + length (elements l))) is (passing_left (is_of name) (elements l) 0 0 (omega arith))) in
      let many : length (elements l) ≡ length (elements now) = sym (ap length (elements_with l put) ∙ as_many (elements l) m first.it new is_first) in
      let later = removes_hold k c more 0 after st.all_stand st.stands n b now (still_there c trees all s n a there e (k.make now) st) (value_put a (k.make l) (k.make now) value)
      (subst (λ j. Left 0 j more) many (wider 0 (length (elements l)) more whole.1)) in
      more_hold c trees all s n a there e (k.make now) st k (removed_from (child c n) 0 more) _
      (subst (HoldsAs k c (removed_from (child c n) 0 more) after n b (xs c after st.all_stand st.stands)) (ap (left_after 0 more) (elements_with l put) ∙ left_is) later)

-- ---- the task

module _ (name value : List ℕ) (name_utf8 : IsUtf8 name) (value_utf8 : IsUtf8 value) (c : CallRef) (trees : List Plain) (all : All MayStandBetween trees) (s : CallStands c trees) (steps : List Step) where
  abbrev arguments : List (Argument Nowhere)
  arguments = xs c trees all s

  abbrev entry : List ℕ
  entry = option_text name value

  entry_utf8 : IsUtf8 entry
  entry_utf8 = option_may name value name_utf8 value_utf8

  -- the entries before and after
  abbrev Sets : (bs ys : List (Argument Nowhere)) → Type 0
  Sets bs ys = before_equals name ≡ None → EntrySet name value bs ys

  set_is : (bs ys : List (Argument Nowhere)) → holds options_key arguments ≡ bs → Sets bs ys → (after : List (Argument Nowhere)) → Holds options_key ys arguments after → TaskLeaves (set_option name value) arguments after
  set_is bs ys is sets after h = λ bare_name. record {
    values = ap (λ zs. map value_of_option (filter (is_of name) zs)) h.holds ∙ (sets bare_name).values;
    entries = ap (filter (λ x. not (is_of name x))) h.holds ∙ (sets bare_name).others ∙ ap (filter (λ x. not (is_of name x))) (sym is);
    arguments = h.others;
  }

  module _ (n : ℕ) (e : Expression Nowhere) (o : OneNamed options_key arguments n e) where
    abbrev a : Argument Nowhere
    a = it options_key arguments n e o

    there : nth arguments n ≡ Some a
    there = is_it options_key arguments n e o

    set_done : (made : List Step) (k : Container) → ((l : Listing Nowhere) → held_elements (k.make l) ≡ elements l) → (ys : List (Argument Nowhere)) → HoldsAs k c made trees n a arguments ys → Sets (held_elements e) ys → made ≡ steps
        → Does (set_option name value) c trees steps
    set_done made k all_held ys h sets same =
        subst (Does (set_option name value) c trees) same
        (does (set_option name value) c trees all s made _ h.leaves
        (set_is (held_elements e) ys (ap held_in (value_there options_key arguments n e o)) sets _ (holds_these options_key k all_held c made trees arguments ys n e o h)))

    in_lone : (text : List ℕ) → text_in element.Text e ≡ Some text → (b : Bool) → is_entry name (text_in element.Text e) ≡ b → set_in_lone c n entry b ≡ steps → Does (set_option name value) c trees steps
    in_lone text lone true is same =
        let one = lone_held element.Text e text lone in
        let new = string_of entry in
        let sets : Sets (held_elements e) (plain new ∷ []) = λ bare_name. lone_put name value (held_elements e) (plain e) (plain new) one is (new_entry name value entry_utf8 bare_name) in
        subst (Does (set_option name value) c trees) same
        (does (set_option name value) c trees all s _ _
        (one_leaves c trees all s (Replace c.path.steps n (written_text entry)) _ (replace_step c trees all s n a e (written_text entry) there refl (text_written entry entry_utf8) tt (omega arith)))
        (set_is (held_elements e) (plain new ∷ []) (ap held_in (value_there options_key arguments n e o)) sets _
        (record { holds = ap held_in (put_value options_key arguments n e o new); others = put_others options_key arguments n e o new })))
    in_lone text lone false is same =
        let one = lone_held element.Text e text lone in
        let sets : Sets (held_elements e) (plain e ∷ put_behind element.Text (entry ∷ [])) = λ bare_name.
        subst (λ bs. EntrySet name value bs (plain e ∷ plain (string_of entry) ∷ [])) (sym one)
        (behind_set name value (plain e ∷ []) (plain (string_of entry)) (ap (λ t. if t then 0 ∷ [] else []) is) (new_entry name value entry_utf8 bare_name)) in
        set_done _ array_container (λ l. refl) (plain e ∷ put_behind element.Text (entry ∷ []))
        (wrap_holds c element.Text (entry ∷ []) (entry_utf8, tt) trees all s n a e there refl (flat_text element.Text e text lone)) sets same

    lone_set : (t : Option (List ℕ)) → text_in element.Text e ≡ t → of_lone t (set_in_lone c n entry (is_entry name (text_in element.Text e))) ≡ Ok steps → Does (set_option name value) c trees steps
    lone_set None is h = absurd cc
    lone_set (Some text) is h = in_lone text is (is_entry name (text_in element.Text e)) refl cc

  in_list : (n : ℕ) (l : Listing Nowhere) (o : OneNamed options_key arguments n (array l)) → all_of_kind element.Text (elements l) ≡ true → (ns : List ℕ) → passing (is_of name) 0 (elements l) ≡ ns
      → set_in_list (child c n) (length (elements l)) entry ns ≡ steps → Does (set_option name value) c trees steps
  in_list n l o known [] is same =
      set_done n (array l) o _ array_container (λ m. refl) (elements l ++ put_behind element.Text (entry ∷ []))
      (puts_hold c element.Text (entry ∷ []) (entry_utf8, tt) trees all s n (it options_key arguments n (array l) o) l (is_it options_key arguments n (array l) o) refl)
      (λ bare_name. behind_set name value (elements l) (plain (string_of entry)) is (new_entry name value entry_utf8 bare_name)) same
  in_list n l o known (m ∷ more) is same =
      let a = it options_key arguments n (array l) o in
      let there = is_it options_key arguments n (array l) o in
      let f = first_passes (is_of name) (elements l) 0 m more is in
      let sets : Sets (elements l) (f.front ++ with_value (string_of entry) f.it ∷ filter (λ x. not (is_of name x)) f.back) = λ bare_name.
      first_put name value (elements l) m more f (with_value (string_of entry) f.it)
      (known_plain name value f.front f.it f.back (subst (λ ys. all_of_kind element.Text ys ≡ true) f.joined known) entry (new_entry name value entry_utf8 bare_name)) in
      set_done n (array l) o _ array_container (λ j. refl) _ (first_holds array_container name entry entry_utf8 c trees all s n a l there refl m more is) sets same

  in_dictionary : (n : ℕ) (l : Listing Nowhere) (o : OneNamed options_key arguments n (dictionary l)) → keys_known (elements l) ≡ true → (ns : List ℕ) → passing (is_of name) 0 (elements l) ≡ ns
      → set_in_dictionary (child c n) (length (elements l)) name value ns ≡ steps → Does (set_option name value) c trees steps
  in_dictionary n l o known [] is same =
      let a = it options_key arguments n (dictionary l) o in
      let there = is_it options_key arguments n (dictionary l) o in
      let put = put_step dictionary_container c trees all s n a l there refl (written_pair name value) (pair_written name value name_utf8 value_utf8) refl (refl, tt, tt) (λ x. (tt, tt)) in
      let more = elements l ++ pair tt (string_of name) (string_of value) ∷ [] in
      let now = with_elements l more in
      let hold : HoldsAs dictionary_container c (step_in c put.edit ∷ []) trees n a arguments more =
      more_hold c trees all s n a there put.edit (dictionary now) put.step dictionary_container [] more
      (subst (HoldsAs dictionary_container c [] (slice_set trees c.file put.step.now) n (with_value (dictionary now) a) (xs c (slice_set trees c.file put.step.now) put.step.all_stand put.step.stands)) (elements_with l more)
      (holds_same dictionary_container c (slice_set trees c.file put.step.now) put.step.all_stand put.step.stands n (with_value (dictionary now) a) now
      (still_there c trees all s n a there put.edit (dictionary now) put.step) (value_put a (dictionary l) (dictionary now) refl))) in
      set_done n (dictionary l) o _ dictionary_container (λ m. refl) more
      (subst (λ x. HoldsAs dictionary_container c (x ∷ []) trees n a arguments more) (sym put.is) hold)
      (λ bare_name. behind_set name value (elements l) (pair tt (string_of name) (string_of value)) is (new_pair name value name_utf8 value_utf8)) same
  in_dictionary n l o known (m ∷ more) is same =
      let a = it options_key arguments n (dictionary l) o in
      let there = is_it options_key arguments n (dictionary l) o in
      let f = first_passes (is_of name) (elements l) 0 m more is in
      let sets : Sets (elements l) (f.front ++ with_value (string_of value) f.it ∷ filter (λ x. not (is_of name x)) f.back) = λ bare_name.
      first_put name value (elements l) m more f (with_value (string_of value) f.it)
      (known_pair name value value_utf8 f.front f.it f.back (subst (λ ys. keys_known ys ≡ true) f.joined known) f.passes) in
      set_done n (dictionary l) o _ dictionary_container (λ j. refl) _ (first_holds dictionary_container name value value_utf8 c trees all s n a l there refl m more is) sets same

  set_value : (n : ℕ) (e : Expression Nowhere) (o : OneNamed options_key arguments n e) → set_by_shape c n name entry (text_in element.Text e) (value_shape e) ≡ Ok steps → Does (set_option name value) c trees steps
  set_value n (array l) o h =
      let known = of_list_known (all_of_kind element.Text (elements l)) (set_in_list (child c n) (length (elements l)) entry (passing (is_entry_element name) 0 (elements l))) steps h in
      in_list n l o known.0 (passing (is_of name) 0 (elements l)) refl (ap (set_in_list (child c n) (length (elements l)) entry) (sym (entry_tests name (elements l) 0 known.0)) ∙ known.1)
  set_value n e o h = lone_set n e o (text_in element.Text e) refl h

  set_any : (n : ℕ) (e : Expression Nowhere) (o : OneNamed options_key arguments n e) → set_by_value c n name value e (entries e) ≡ Ok steps → Does (set_option name value) c trees steps
  set_any n (dictionary l) o h =
      let known = of_list_known (keys_known (elements l)) (set_in_dictionary (child c n) (length (elements l)) name value (passing (has_key name) 0 (elements l))) steps h in
      in_dictionary n l o known.0 (passing (is_of name) 0 (elements l)) refl (ap (set_in_dictionary (child c n) (length (elements l)) name value) (sym (key_tests name (elements l) 0 known.0)) ∙ known.1)
  set_any n e o h = set_value n e o h

  set_by : (vs : List (Numbered (Expression Nowhere))) → keyword_in options_key arguments ≡ vs → then_ok (one_at_most options_key vs) (set_option_there c (length arguments) name value) ≡ Ok steps → Does (set_option name value) c trees steps
  set_by [] none h =
      let new = written_list element.Text (entry ∷ []) in
      let same : behind_all c (length arguments) (written_named options_key new) ∷ [] ≡ steps = cc in
      let nothing : holds options_key arguments ≡ [] = ap held_in (none_there options_key arguments none) in
      let sets : Sets [] (plain (string_of entry) ∷ []) = λ bare_name. behind_set name value [] (plain (string_of entry)) refl (new_entry name value entry_utf8 bare_name) in
      subst (Does (set_option name value) c trees) same
      (does (set_option name value) c trees all s _ _
      (inserted_leaves c trees all s _ _
      (insert_step c trees all s options_key new (named_written options_key new.bytes new.node (identifier_true options_key refl) default_text (list_written element.Text (entry ∷ []) (entry_utf8, tt)))
      (list_level element.Text (entry ∷ []) (entry_utf8, tt)) (list_shallow element.Text (entry ∷ []) (entry_utf8, tt))))
      (set_is [] (plain (string_of entry) ∷ []) nothing sets _ (record { holds = ap held_in (come_value options_key arguments new.node none); others = come_others options_key arguments new.node })))
  set_by (v ∷ []) there h = set_any v.number v.value (one_named options_key arguments v there) h
  set_by (v ∷ w ∷ more) there h = absurd cc

pub set_option_does : (name value : List ℕ) → IsUtf8 name → IsUtf8 value → TaskDoes (set_option name value)
set_option_does name value name_utf8 value_utf8 c trees all s steps made =
    set_by name value name_utf8 value_utf8 c trees all s steps (keyword_in options_key (xs c trees all s)) refl
    (sym (ap (task_steps (set_option name value) c) (elements_are c trees all s)) ∙ made)
