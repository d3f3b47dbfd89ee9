-- A list that gets elements, each in its place: the steps may be done one after another, and what its elements are then.
use Rattle.std.proofs.Common.{◌≡◌, ◌≢◌, ℕ, zero, suc, ◌+◌, ◌≤◌, ◌<◌, true, false, List, [], ◌∷◌, ◌++◌, append-nil, length, length-append, take, drop, Option, Some, None, refl, sym, ap, ap₂, ◌∙◌, subst, arith}
use Rattle.std.specs.Prelude.{Bool, All, insert, nat_eq, slice_set, option_and_then, if◌then◌else◌, is_some}
use Rattle.std.proofs.lemmas.Bool.{eqb-false, eqb-true}
use Rattle.std.proofs.lemmas.List.Edits.{insert_end, length-insert}
use Rattle.meson_syntax.specs.declared.operator.Bracket.{Bracket}
use Rattle.meson_syntax.specs.declared.operator.Bracket.TheVariants as bracket
use Rattle.meson_syntax.specs.Paths.{nth}
use Rattle.meson_syntax.specs.Tree.{Argument, plain, Expression, Listing, Nowhere, Plain}
use Rattle.meson_edit.specs.Edits.{Edit, After, Replace, Written, elements, is_empty, with_elements}
use Rattle.meson_calls.specs.declared.call.CallRef.{CallRef}
use Rattle.meson_steps.specs.declared.order.InsertionPoint.{InsertionPoint}
use Rattle.meson_steps.specs.declared.order.InsertionPoint.TheVariants as point
use Rattle.meson_steps.specs.declared.order.SortKey.{SortKey}
use Rattle.meson_steps.specs.ListSteps.{MayStandBetween}
use Rattle.meson_steps.specs.Order.{IsInside, put_key}
use Rattle.meson_steps.specs.OrderedLists.{Added, Ordered, all_elements, all_put, comes_first, number_at, point_in, put_after, put_in_front, put_one, put_steps}
use Rattle.meson_steps.specs.Steps.{Step, all_stepped, step_in}
use Rattle.meson_steps.proofs.Points.{front_is_there, point_inside}
use Rattle.meson_places.specs.Changes.{behind_all}
use Rattle.meson_places.proofs.AddedValues.{set_twice}
use Rattle.meson_places.proofs.BetweenDoable.{follow_any, open_between}
use Rattle.meson_places.proofs.BetweenLeft.{some_there, with_again}
use Rattle.meson_places.proofs.ElementsEdited.{Done, then_done}
use Rattle.meson_places.proofs.ListStands as stands
use Rattle.meson_places.proofs.ListStands.{ListStands, behind_step, insert_step, replace_step, xs}
use Rattle.meson_places.proofs.NewElementsDoable.{Fits, first_may, follow_may}
use Rattle.meson_places.proofs.SlotsDoable.{nth_within}
use Rattle.meson_places.proofs.ValueListsThere.{IsOpen}

open_first : (b : Bracket) (old e : Expression Nowhere) (rest : List (Argument Nowhere)) → IsOpen b (plain old ∷ rest) → IsOpen b (plain e ∷ rest)
open_first bracket.Square old e rest opened = tt
open_first bracket.Round old e rest opened = opened
open_first bracket.Curly old e rest opened = opened

-- the first element is this one
pub record IsFirst (limit : ℕ) (ys : List (Argument Nowhere)) (w : Written (Expression Nowhere)) : Type 0 where
  pub rest : List (Argument Nowhere)
  pub are : ys ≡ plain w.node ∷ rest
  pub fits : Fits limit w

-- what is known of the order of a list is so of these elements
pub record Suits (limit : ℕ) (o : Ordered) (ys : List (Argument Nowhere)) : Type 0 where
  pub from : o.from ≡ 0
  pub end : o.end ≡ length ys
  pub keys : length o.keys ≤ length ys
  pub first : (w : Written (Expression Nowhere)) → o.first ≡ Some w → IsFirst limit ys w

module _ (c : CallRef) (b : Bracket) (limit : ℕ) where
  -- the list has these elements after some steps
  pub record Leads (trees : List Plain) (all : All MayStandBetween trees) (s : ListStands c b limit trees) (steps : List Step) (zs : List (Argument Nowhere)) : Type 0 where
    pub now : List Plain
    pub is_now : now ≡ slice_set trees c.file (s.place.back (with_elements s.place.list zs))
    pub done : Done steps trees now
    pub stands : ListStands c b limit now
    pub are : elements stands.place.list ≡ zs
    pub same_list : stands.place.list ≡ with_elements s.place.list zs
    pub same_back : (l : Listing Nowhere) → stands.place.back l ≡ s.place.back l

  lead : (trees : List Plain) (all : All MayStandBetween trees) (s : ListStands c b limit trees) (e : Edit) (zs : List (Argument Nowhere)) → stands.ListStep c b limit trees all s e zs
      → Leads trees all s (step_in c e ∷ []) zs
  lead trees all s e zs st = record {
    now = slice_set trees c.file st.now;
    is_now = ap (slice_set trees c.file) st.is_now;
    done = record { doable = st.doable; made = ap (option_and_then (all_stepped [])) st.is_stepped; all_stand = st.all_stand };
    stands = st.stands;
    are = st.are;
    same_list = st.same_list;
    same_back = st.same_back;
  }

  leads_on : (trees : List Plain) (all : All MayStandBetween trees) (s : ListStands c b limit trees) (a d : List Step) (ys zs : List (Argument Nowhere)) → is_empty ys ≡ false
      → (p : Leads trees all s a ys) → Leads p.now p.done.all_stand p.stands d zs → Leads trees all s (a ++ d) zs
  leads_on trees all s a d ys zs some p q =
      let before = s.place.list in
      let list = ap (λ l. with_elements l zs) p.same_list ∙ with_again before ys zs some in
      record {
        now = q.now;
        is_now = q.is_now ∙ ap (λ ts. slice_set ts c.file (p.stands.place.back (with_elements p.stands.place.list zs))) p.is_now
            ∙ set_twice trees c.file (s.place.back (with_elements before ys)) (p.stands.place.back (with_elements p.stands.place.list zs))
            ∙ ap (slice_set trees c.file) (p.same_back (with_elements p.stands.place.list zs) ∙ ap s.place.back list);
        done = then_done a d trees p.now q.now p.done q.done;
        stands = q.stands;
        are = q.are;
        same_list = q.same_list ∙ list;
        same_back = λ l. q.same_back l ∙ p.same_back l;
      }

  behind_is : (m : ℕ) (w : Written (Expression Nowhere)) → put_after c m w ≡ behind_all c m (record { bytes = w.bytes; node = plain w.node })
  behind_is zero w = refl
  behind_is (suc m) w = refl

  -- ---- one value

  module _ (trees : List Plain) (all : All MayStandBetween trees) (s : ListStands c b limit trees) (ys : List (Argument Nowhere)) (are : xs c b limit trees all s ≡ ys) (opened : IsOpen b ys)
      (w : Written (Expression Nowhere)) (f : Fits limit w) where
    abbrev new : Written (Argument Nowhere)
    new = record { bytes = w.bytes; node = plain w.node }

    abbrev here : List (Argument Nowhere)
    here = xs c b limit trees all s

    open_here : IsOpen b here
    open_here = subst (IsOpen b) (sym are) opened

    at_end : (m : ℕ) → m ≡ length ys → Leads trees all s (put_after c m w ∷ []) (insert ys m (plain w.node))
    at_end m many =
        let st = behind_step c b limit trees all s new f.writes (first_may b here open_here w.node f.level) (λ n it long there. follow_may b here open_here n it there w.node f.level) f.small in
        let count : length here ≡ m = ap length are ∙ sym many in
        let steps : step_in c st.edit ∷ [] ≡ put_after c m w ∷ [] = ap (λ x. x ∷ []) (sym st.is ∙ ap (λ n. behind_all c n new) count ∙ sym (behind_is m w)) in
        let whole : here ++ plain w.node ∷ [] ≡ insert ys m (plain w.node) = ap (λ l. l ++ plain w.node ∷ []) are ∙ sym (ap (λ n. insert ys n (plain w.node)) many ∙ insert_end ys (plain w.node)) in
        subst (λ l. Leads trees all s l (insert ys m (plain w.node))) steps (subst (Leads trees all s (step_in c st.edit ∷ [])) whole (lead trees all s st.edit (here ++ plain w.node ∷ []) st.step))

    at_number : (n : ℕ) → n < length ys → Leads trees all s (put_after c (suc n) w ∷ []) (insert ys (suc n) (plain w.node))
    at_number n within =
        let inside : n < length here = omega (arith, within, ap length are) in
        let it = nth_within here n inside in
        let st = insert_step c b limit trees all s n it.0 new it.1 f.writes (follow_any b it.0 (drop (suc n) here) w.node (follow_may b here open_here n it.0 it.1 w.node f.level)) f.small in
        subst (Leads trees all s (step_in c (After c.path.steps n new) ∷ [])) (ap (λ l. insert l (suc n) (plain w.node)) are) (lead trees all s (After c.path.steps n new) (insert here (suc n) (plain w.node)) st)

    in_front : (first : Written (Expression Nowhere)) → IsFirst limit ys first → Leads trees all s (step_in c (Replace c.path.steps 0 w) ∷ put_after c 1 first ∷ []) (insert ys 0 (plain w.node))
    in_front first is =
        let old = plain first.node in
        let first_here : here ≡ old ∷ is.rest = are ∙ is.are in
        let it : nth here 0 ≡ Some old = ap (λ l. nth l 0) first_here in
        let one = replace_step c b limit trees all s 0 old first.node w it refl f.writes f.level f.small in
        let mid : List (Argument Nowhere) = plain w.node ∷ drop 1 here in
        let p : Leads trees all s (step_in c (Replace c.path.steps 0 w) ∷ []) mid = lead trees all s (Replace c.path.steps 0 w) mid one in
        let now = xs c b limit p.now p.done.all_stand p.stands in
        let there : nth now 0 ≡ Some (plain w.node) = ap (λ l. nth l 0) p.are in
        let open_mid : IsOpen b mid = subst (λ l. IsOpen b (plain w.node ∷ l)) (sym (ap (drop 1) first_here)) (open_first b first.node w.node is.rest (subst (IsOpen b) is.are opened)) in
        let open_there = subst (IsOpen b) (sym p.are) open_mid in
        let again : Written (Argument Nowhere) = record { bytes = first.bytes; node = old } in
        let two = insert_step c b limit p.now p.done.all_stand p.stands 0 (plain w.node) again there is.fits.writes
        (follow_any b (plain w.node) (drop 1 now) first.node (follow_may b now open_there 0 (plain w.node) there first.node is.fits.level)) is.fits.small in
        let q = lead p.now p.done.all_stand p.stands (After c.path.steps 0 again) (insert now 1 old) two in
        let whole : insert now 1 old ≡ plain w.node ∷ ys = ap (λ l. insert l 1 old) p.are ∙ ap (λ l. plain w.node ∷ old ∷ drop 1 l) first_here ∙ ap (λ l. plain w.node ∷ l) (sym is.are) in
        leads_on trees all s (step_in c (Replace c.path.steps 0 w) ∷ []) (put_after c 1 first ∷ []) mid (plain w.node ∷ ys) refl p
        (subst (Leads p.now p.done.all_stand p.stands (put_after c 1 first ∷ [])) whole q)

    module _ (o : Ordered) (u : Suits limit o ys) where
      to_front : (first : Option (Written (Expression Nowhere))) → o.first ≡ first → is_some first ≡ true → Leads trees all s (put_in_front c o first w) (insert ys o.from (plain w.node))
      to_front None is there = absurd (let no : ⊥ = cc in no)
      to_front (Some first) is there =
          subst (λ n. Leads trees all s (step_in c (Replace c.path.steps n w) ∷ put_after c (suc n) first ∷ []) (insert ys n (plain w.node))) (sym u.from) (in_front first (u.first first is))

      at_point : (p : InsertionPoint) → IsInside p (length o.keys) → (p ≡ point.Front → is_some o.first ≡ true) → Leads trees all s (put_steps c o p w) (insert ys (number_at o p) (plain w.node))
      at_point point.End inside front = at_end o.end u.end
      at_point (point.After n) inside front =
          let number : n ≡ o.from + n = omega (arith, u.from) in
          subst (λ m. Leads trees all s (put_after c (suc m) w ∷ []) (insert ys (suc m) (plain w.node))) number (at_number n (omega (arith, inside, u.keys)))
      at_point point.Front inside front = to_front o.first refl (front refl)

  -- ---- the order with it

  module _ (o : Ordered) (ys : List (Argument Nowhere)) (u : Suits limit o ys) (k : SortKey) (w : Written (Expression Nowhere)) (f : Fits limit w) where
    within : (p : InsertionPoint) → IsInside p (length o.keys) → number_at o p ≤ length ys
    within point.End inside = omega (arith, u.end)
    within (point.After n) inside = omega (arith, inside, u.keys, u.from)
    within point.Front inside = omega (arith, u.from)

    keys_longer : (p : InsertionPoint) → IsInside p (length o.keys) → length (put_key p k o.keys) ≡ suc (length o.keys)
    keys_longer point.End inside = omega (arith, length-append o.keys (k ∷ []))
    keys_longer (point.After n) inside = omega (arith, length-insert o.keys (suc n) k (omega (arith, inside)))
    keys_longer point.Front inside = refl

    stays : (v : Written (Expression Nowhere)) (m : ℕ) → m ≢ 0 → IsFirst limit ys v → IsFirst limit (insert ys m (plain w.node)) v
    stays v zero some i = absurd (some refl)
    stays v (suc m) some i = record { rest = insert i.rest m (plain w.node); are = ap (λ l. insert l (suc m) (plain w.node)) i.are; fits = i.fits }

    first_now : (p : InsertionPoint) → (v : Written (Expression Nowhere)) → (if comes_first o.from o.end p then Some w else o.first) ≡ Some v → IsFirst limit (insert ys (number_at o p) (plain w.node)) v
    first_now point.End v is = go (nat_eq o.from o.end) refl is
      where
        go : (x : Bool) → nat_eq o.from o.end ≡ x → (if x then Some w else o.first) ≡ Some v → IsFirst limit (insert ys o.end (plain w.node)) v
        go true same_number h =
            let same : w ≡ v = cc in
            let number : o.end ≡ 0 = omega (arith, eqb-true o.from o.end same_number, u.from) in
            let count : length ys ≡ 0 = omega (arith, u.end, number) in
            let empty : ys ≡ [] = stands.no_elements ys count in
            subst (IsFirst limit (insert ys o.end (plain w.node))) same (record { rest = []; are = ap₂ (λ l n. insert l n (plain w.node)) empty number; fits = f })
        go false some h =
            let number : o.end ≢ 0 = λ at_start. eqb-false o.from o.end some (u.from ∙ sym at_start) in
            stays v o.end number (u.first v h)
    first_now (point.After n) v is = stays v (suc (o.from + n)) (λ at_start. let no : ⊥ = omega (arith, at_start) in no) (u.first v is)
    first_now point.Front v is =
        let same : w ≡ v = cc in
        subst (IsFirst limit (insert ys o.from (plain w.node))) same (record { rest = ys; are = ap (λ n. insert ys n (plain w.node)) u.from; fits = f })

    pub suits_then : (p : InsertionPoint) → IsInside p (length o.keys) → Suits limit (put_one o p k w) (insert ys (number_at o p) (plain w.node))
    suits_then p inside =
        let longer = length-insert ys (number_at o p) (plain w.node) (within p inside) in
        record {
          from = u.from;
          end = omega (arith, u.end, longer);
          keys = omega (arith, keys_longer p inside, u.keys, longer);
          first = first_now p;
        }

  -- ---- all of them

  abbrev pub AllFitting : List Added → Type 0
  AllFitting [] = Unit {0}
  AllFitting (a ∷ more) = Fits limit a.written × AllFitting more

  one_there : (a : Added) → Fits limit a.written → (o : Ordered) (ys : List (Argument Nowhere)) → Suits limit o ys → IsOpen b ys → (trees : List Plain) (all : All MayStandBetween trees)
      (s : ListStands c b limit trees) → xs c b limit trees all s ≡ ys → Leads trees all s (put_steps c o (point_in o a.key) a.written) (insert ys (number_at o (point_in o a.key)) (plain a.written.node))
  one_there a f o ys u opened trees all s are =
      at_point trees all s ys are opened a.written f o u (point_in o a.key) (point_inside (is_some o.first) a.key o.keys) (front_is_there (is_some o.first) a.key o.keys)

  pub put_all_there : (a : Added) (more : List Added) → Fits limit a.written → AllFitting more → (o : Ordered) (ys : List (Argument Nowhere)) → Suits limit o ys → IsOpen b ys → (trees : List Plain) (all : All MayStandBetween trees)
      (s : ListStands c b limit trees) → xs c b limit trees all s ≡ ys → Leads trees all s (all_put c o (a ∷ more)) (all_elements o (a ∷ more) ys)
  put_all_there a [] f fit o ys u opened trees all s are =
      let p = point_in o a.key in
      let zs = insert ys (number_at o p) (plain a.written.node) in
      subst (λ l. Leads trees all s l zs) (sym (append-nil (put_steps c o p a.written))) (one_there a f o ys u opened trees all s are)
  put_all_there a (d ∷ later) f fit o ys u opened trees all s are =
      let p = point_in o a.key in
      let zs = insert ys (number_at o p) (plain a.written.node) in
      let next = put_one o p a.key a.written in
      let one = one_there a f o ys u opened trees all s are in
      let rest = put_all_there d later fit.0 fit.1 next zs (suits_then o ys u a.key a.written f p (point_inside (is_some o.first) a.key o.keys)) (open_between b (number_at o p) ys a.written.node opened) one.now one.done.all_stand one.stands one.are in
      leads_on trees all s (put_steps c o p a.written) (all_put c next (d ∷ later)) zs (all_elements next (d ∷ later) zs)
      (some_there (take (number_at o p) ys) (drop (number_at o p) ys) (plain a.written.node)) one rest
