-- What gathered marks say of the sources of a call.
use Rattle.meson_variables.proofs.Words.{◌≡◌, ℕ, suc, ◌+◌, ◌≤◌, List, [], ◌∷◌, ◌++◌, length, map, refl, sym, ap, ◌∙◌, arith, zero-add, Option, Some, None, Ok}
use Rattle.meson_variables.proofs.Words.{append_assoc, append-nil, Span, Expression, list_view, Call, Numbered, positional, keyword, value_without_name}
use Rattle.meson_variables.proofs.Words.{value_with_name, call_with, sources_key, kwargs_key, rest, once, kept_args, Project, child, placed, CallRef, list_is}
use Rattle.meson_variables.proofs.Words.{one_by, arguments_by, with_hidden, all_gathered, Slot, in_list, fixed, Mark, known, opaque, empty, then_expand}
use Rattle.meson_variables.proofs.Words.{max_followed, Tally, number_of_slot, tally_and, all_marked, Gathered, expanded, no_marks, expand_arguments, hidden}
use Rattle.meson_variables.proofs.Words.{source_marks, items, opaque_count, or_option, list_of_slot, first_list, first_empty, or_call, source_item}
use Rattle.meson_variables.proofs.Words.{sources_of_marks, sources_of_call}
use Rattle.meson_syntax.specs.declared.tree.List as rust
use Rattle.meson_variables.specs.declared.source.SourceItem.{SourceItem}
use Rattle.meson_variables.specs.declared.source.Sources as found
use Rattle.meson_variables.proofs.Gathers.{all_marked-append, expand_follow}
use Rattle.meson_calls.proofs.KeywordArguments.{keyword_is}

-- ---- a tally of marks is what the definitions say of them

or_assoc : {X : Type 0} (a b c : Option X) → or_option (or_option a b) c ≡ or_option a (or_option b c)
or_assoc None b c = refl
or_assoc (Some x) b c = refl

or_some : {X : Type 0} (a : Option X) (x : X) (c : Option X) → or_option (or_option a (Some x)) c ≡ or_option a (Some x)
or_some None x c = refl
or_some (Some y) x c = refl

or_none : {X : Type 0} (a : Option X) → or_option a None ≡ a
or_none None = refl
or_none (Some x) = refl

abbrev numbers_of : List (Mark Span) → List (Option ℕ)
numbers_of ms = map (λ i. number_of_slot i.slot) (items ms)

abbrev pub tally_with : Tally → List (Mark Span) → Tally
tally_with t ms = record {
  items = t.items ++ map source_item (items ms);
  numbers = t.numbers ++ numbers_of ms;
  unknown = t.unknown + opaque_count ms;
  list = or_option t.list (first_list ms);
  vacant = or_option t.vacant (first_empty ms);
}

abbrev tally_of : List SourceItem → List (Option ℕ) → ℕ → Option CallRef → Option CallRef → Tally
tally_of items numbers unknown list vacant = record { items = items; numbers = numbers; unknown = unknown; list = list; vacant = vacant }

pub tally_is : (t : Tally) (ms : List (Mark Span)) → all_marked t ms ≡ tally_with t ms
tally_is t [] =
    let count : t.unknown ≡ t.unknown + 0 = omega arith in
    ap (λ xs. tally_of xs t.numbers t.unknown t.list t.vacant) (sym (append-nil t.items))
    ∙ ap (λ xs. tally_of (t.items ++ []) xs t.unknown t.list t.vacant) (sym (append-nil t.numbers))
    ∙ ap (λ n. tally_of (t.items ++ []) (t.numbers ++ []) n t.list t.vacant) count
    ∙ ap (λ o. tally_of (t.items ++ []) (t.numbers ++ []) (t.unknown + 0) o t.vacant) (sym (or_none t.list))
    ∙ ap (λ o. tally_of (t.items ++ []) (t.numbers ++ []) (t.unknown + 0) (or_option t.list None) o) (sym (or_none t.vacant))
tally_is t (known i ∷ ms) =
    let vacant = or_option t.vacant (first_empty ms) in
    let unknown = t.unknown + opaque_count ms in
    let list = or_option (or_option t.list (list_of_slot i.slot)) (first_list ms) in
    tally_is (tally_and t (known i)) ms
    ∙ ap (λ xs. tally_of xs ((t.numbers ++ number_of_slot i.slot ∷ []) ++ numbers_of ms) unknown list vacant) (append_assoc t.items (source_item i ∷ []) (map source_item (items ms)))
    ∙ ap (λ xs. tally_of (t.items ++ (source_item i ∷ map source_item (items ms))) xs unknown list vacant) (append_assoc t.numbers (number_of_slot i.slot ∷ []) (numbers_of ms))
    ∙ ap (λ o. tally_of (t.items ++ (source_item i ∷ map source_item (items ms))) (t.numbers ++ (number_of_slot i.slot ∷ numbers_of ms)) unknown o vacant)
    (or_assoc t.list (list_of_slot i.slot) (first_list ms))
tally_is t (opaque ∷ ms) =
    let count : (t.unknown + 1) + opaque_count ms ≡ t.unknown + suc (opaque_count ms) = omega arith in
    tally_is (tally_and t opaque) ms
    ∙ ap (λ n. tally_of (t.items ++ map source_item (items ms)) (t.numbers ++ numbers_of ms) n (or_option t.list (first_list ms)) (or_option t.vacant (first_empty ms))) count
tally_is t (empty p ∷ ms) =
    tally_is (tally_and t (empty p)) ms
    ∙ ap (λ o. tally_of (t.items ++ map source_item (items ms)) (t.numbers ++ numbers_of ms) (t.unknown + opaque_count ms) (or_option t.list (first_list ms)) o)
    (or_some t.vacant p (first_empty ms))

abbrev pub answer_of : CallRef → Tally → found.Sources
answer_of c t = record { items = t.items; opaque = t.unknown; home = or_call c (or_option t.list t.vacant) }

answered : (c : CallRef) (ms : List (Mark Span)) → answer_of c (all_marked no_marks.tally ms) ≡ sources_of_marks c ms
answered c ms =
    ap (answer_of c) (tally_is no_marks.tally ms)
    ∙ ap (λ n. record { items = map source_item (items ms); opaque = n; home = or_call c (or_option (first_list ms) (first_empty ms)) }) (zero-add (opaque_count ms))

-- ---- arguments

pub arguments_are : (p : Project Span) (c : CallRef) (slot : ℕ → Slot) (xs : List (Numbered (Expression Span))) (f : List (List ℕ)) → arguments_by p max_followed c slot xs f ≡ expand_arguments p c slot xs f
arguments_are p c slot [] f = refl
arguments_are p c slot (a ∷ more) f =
    let e = one_by p max_followed c slot a f in
    ap (λ r. record { marks = e.marks ++ r.marks; followed = r.followed }) (arguments_are p c slot more e.followed)
    ∙ ap (λ by. then_expand (by a.value (record { place = child c a.number; slot = slot a.number; variable = None }) f) (λ now. expand_arguments p c slot more now)) (sym (expand_follow p max_followed))

module _ (p : Project Span) (c : CallRef) (source : List ℕ) (l : rust.List) (function : List ℕ) where
  abbrev the_call : Call Span
  the_call = call_with function (list_view source l)

  positional_is : positional the_call ≡ kept_args source value_without_name 0 (rust.out-List l).items
  positional_is = ap (λ x. positional (call_with function x)) (list_is source l)

  hidden_marks : (g : Gathered) (ks : List (Numbered (Expression Span))) → (with_hidden g ks).tally ≡ all_marked g.tally (hidden ks)
  hidden_marks g [] = refl
  hidden_marks g (k ∷ ks) = refl

  pub gathered_marks : (all_gathered p max_followed c source (rust.out-List l).items).tally ≡ all_marked no_marks.tally (source_marks p (placed c the_call))
  gathered_marks =
      let t = no_marks.tally in
      let args = (rust.out-List l).items in
      let here = rest (kept_args source value_without_name 0 args) in
      let named = kept_args source (value_with_name sources_key) 0 args in
      let others = kept_args source (value_with_name kwargs_key) 0 args in
      let first = arguments_by p max_followed c (in_list c) here [] in
      let second = arguments_by p max_followed c (λ n. fixed) named first.followed in
      let first_is = arguments_are p c (in_list c) here [] in
      let first_by = expand_arguments p c (in_list c) here [] in
      hidden_marks (expanded (expanded no_marks (arguments_by p max_followed c (in_list c) here)) (arguments_by p max_followed c (λ n. fixed) named)) others
      ∙ ap (λ u. all_marked u (hidden others)) (sym (all_marked-append t first.marks second.marks))
      ∙ sym (all_marked-append t (first.marks ++ second.marks) (hidden others))
      ∙ ap (λ e. all_marked t ((then_expand e (λ now. arguments_by p max_followed c (λ n. fixed) named now)).marks ++ hidden others)) first_is
      ∙ ap (λ r. all_marked t ((first_by.marks ++ r.marks) ++ hidden others)) (arguments_are p c (λ n. fixed) named first_by.followed)
      ∙ ap (λ xs. all_marked t ((then_expand (expand_arguments p c (in_list c) (rest xs) []) (λ now. expand_arguments p c (λ n. fixed) named now)).marks ++ hidden others)) (sym positional_is)
      ∙ ap (λ ys. all_marked t ((then_expand (expand_arguments p c (in_list c) (rest (positional the_call)) []) (λ now. expand_arguments p c (λ n. fixed) ys now)).marks ++ hidden others)) (sym (keyword_is source l function sources_key))
      ∙ ap (λ ks. all_marked t ((then_expand (expand_arguments p c (in_list c) (rest (positional the_call)) []) (λ now. expand_arguments p c (λ n. fixed) (keyword sources_key the_call) now)).marks ++ hidden ks)) (sym (keyword_is source l function kwargs_key))

  once_few : {X : Type 0} (xs : List X) (y : found.Sources) → length xs ≤ 1 → once sources_key xs y ≡ Ok y
  once_few [] y few = refl
  once_few (x ∷ []) y few = refl
  once_few (x ∷ z ∷ more) y few = absurd (omega arith)

  pub answered_once : (t : Tally) → t ≡ (all_gathered p max_followed c source (rust.out-List l).items).tally → length (kept_args source (value_with_name sources_key) 0 (rust.out-List l).items) ≤ 1 →
      sources_of_call p (placed c the_call) ≡ Ok (answer_of c t)
  answered_once t is few =
      let y = sources_of_marks c (source_marks p (placed c the_call)) in
      ap (λ xs. once sources_key xs y) (keyword_is source l function sources_key)
      ∙ once_few (kept_args source (value_with_name sources_key) 0 (rust.out-List l).items) y few
      ∙ ap Ok (sym (answered c (source_marks p (placed c the_call))) ∙ ap (answer_of c) (sym gathered_marks ∙ sym is))
