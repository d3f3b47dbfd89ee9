-- A list that is saved is put back for every list that had its place since.
use Rattle.meson_steps.proofs.Words.{◌≡◌, ℕ, ◌<◌, List, length, get_or, sym, ap, subst, ◌∙◌, list_exchanged, wide, Parsed, tree_with, CallRef, MayPut, MayShift}
use Rattle.meson_steps.proofs.Words.{changed_tree, put_one, Saved, SavedList, IsPutBackFor, MayTakeMoved, settled_tree}
use Rattle.meson_syntax.specs.declared.tree.List as rust
use Rattle.meson_steps.specs.declared.journal.Saved.TheVariants as saved
use Rattle.meson_steps.proofs.Restoring.{changed_there, changed_twice}
use Rattle.meson_steps.proofs.ListTaken.{may_go_on, settled_is, taken_is, unmoved}
use Rattle.meson_steps.proofs.ExchangedTwice.{twice}

module _ (t : Parsed) (new : SavedList) (m : MayTakeMoved t new) where
  abbrev path_of : List ℕ
  path_of = new.place.path.steps

  -- a list in the place of the new one, as in the place of the one before
  pub settled_twice : (len : ℕ) (old : rust.List) → list_exchanged path_of new.from new.now len old (settled_tree new t) ≡ list_exchanged path_of new.from new.was len old t
  settled_twice len old =
      let x = m.takes in
      ap (list_exchanged path_of new.from new.now len old) (settled_is t new m ∙ taken_is t (unmoved t new m) x)
      ∙ ap (λ n. list_exchanged path_of n new.now len old (tree_with path_of x.front x.was x.now m.own t)) x.from_is
      ∙ ap (λ n. list_exchanged path_of (length x.front) n len old (tree_with path_of x.front x.was x.now m.own t)) x.now_is
      ∙ twice wide x.bytes t path_of x.p x.front x.was x.now x.back m.own x.is len old
      ∙ ap (λ n. list_exchanged path_of n (length x.was) len old t) (sym x.from_is) ∙ ap (λ n. list_exchanged path_of new.from n len old t) (sym x.was_is)

-- what is put back for the first list is put back for the second one
module _ (trees : List Parsed) (new : SavedList) (last other : Saved) (f : IsPutBackFor last new other) (there : new.place.file < length trees)
    (takes : (d : Parsed) → MayTakeMoved (get_or trees new.place.file d) new) (may : MayPut last trees) where
  abbrev file : ℕ
  file = new.place.file

  abbrev after_trees : List Parsed
  after_trees = changed_tree file (settled_tree new) trees

  abbrev s : SavedList
  s = f.last

  abbrev saved_again : SavedList
  saved_again = record s { now = new.now }

  may_now : (d : Parsed) → MayShift new.from new.was s.was (get_or trees file d)
  may_now d =
      let was : MayPut (saved.List s) trees = subst (λ l. MayPut l trees) f.old may in
      let here : s.place.file < length trees = subst (λ (c : CallRef). c.file < length trees) (sym f.follows.place) there in
      subst (λ n. MayShift n new.was s.was (get_or trees file d)) f.follows.from
      (subst (λ n. MayShift s.from n s.was (get_or trees file d)) f.follows.now
      (subst (λ (c : CallRef). MayShift s.from s.now s.was (get_or trees c.file d)) f.follows.place (was here d)))

  may_again : MayPut (saved.List saved_again) after_trees
  may_again within d =
      let m = takes d in
      let t = get_or trees file d in
      let go : MayShift new.from new.now s.was (settled_tree new t) =
      subst (MayShift new.from new.now s.was) (sym (settled_is t new m)) (may_go_on t (unmoved t new m) m.takes s.was (may_now d).fits) in
      subst (λ (c : CallRef). MayShift s.from new.now s.was (get_or after_trees c.file d)) (sym f.follows.place)
      (subst (λ n. MayShift n new.now s.was (get_or after_trees file d)) (sym f.follows.from)
      (subst (MayShift new.from new.now s.was) (sym (changed_there file (settled_tree new) trees d there)) go))

  -- the one that is put back, in the words of the new list
  abbrev back_from : ℕ → Parsed → Parsed
  back_from n = list_exchanged new.place.path.steps new.from n s.was s.list

  put_is : (n : ℕ) (ts : List Parsed) → put_one (saved.List (record s { now = n })) ts ≡ changed_tree file (back_from n) ts
  put_is n ts =
      ap (λ (c : CallRef). changed_tree c.file (list_exchanged c.path.steps s.from n s.was s.list) ts) f.follows.place
      ∙ ap (λ k. changed_tree file (list_exchanged new.place.path.steps k n s.was s.list) ts) f.follows.from

  same_back : put_one other after_trees ≡ put_one last trees
  same_back =
      ap (λ l. put_one l after_trees) f.is ∙ put_is new.now after_trees
      ∙ changed_twice file (settled_tree new) (back_from new.now) (back_from new.was) trees (λ d within. settled_twice (get_or trees file d) new (takes d) s.was s.list)
      ∙ sym (put_is new.was trees) ∙ ap (λ n. put_one (saved.List (record s { now = n })) trees) (sym f.follows.now) ∙ ap (λ l. put_one l trees) (sym f.old)

  pub followed_back : MayPut other after_trees × (put_one other after_trees ≡ put_one last trees)
  followed_back = (subst (λ l. MayPut l after_trees) (sym f.is) may_again, same_back)
