use Rattle.meson_steps.proofs.Words.{◌≡◌, ◌∙◌, ◌+◌, ◌∷◌, ◌++◌, [], List, ap, arith, get_or, length, subst, sym, ℕ, Some, slice_set, Span, list_exchanged}
use Rattle.meson_steps.proofs.Words.{moved_parsed, moved, ListAt, list_at, list_view, view, MayPut, MayShift, PutsBack, changed_tree, settled_tree}
use Rattle.meson_syntax.specs.declared.tree.List as rust
use Rattle.meson_steps.specs.declared.journal.Saved.TheVariants as saved
use Rattle.meson_steps.proofs.ListFollowed.{followed_back}
use Rattle.meson_steps.proofs.ListTaken.{goes_back, kept, may_go_back, may_shift, settled_is, unmoved}
use Rattle.meson_steps.proofs.Restoring.{changed_back, changed_is, changed_there, may_pop, puts_back_more, puts_back_other}
use Rattle.meson_steps.proofs.SameRead.{same_read}
use Rattle.meson_steps.proofs.journal.exchange_list.Goals as goal

pub put_in-old-requires : goal.put_in-old-requires
put_in-old-requires c =
    let new = c.args.new in
    let t = c.index_mut.result.now in
    let m = c.requires.takes t in
    subst (MayShift new.from new.was new.now) (sym c.index_mut.ensures.value) (may_shift (get_or c.args.trees.now.items new.place.file t) (unmoved (get_or c.args.trees.now.items new.place.file t) new m) m.takes)

pub returns-clause-done : goal.returns-clause-done
returns-clause-done c =
    let new = c.args.new in
    let trees = c.args.trees.now.items in
    ap (slice_set trees new.place.file) (c.put_in-old.ensures.is ∙ ap (settled_tree new) c.index_mut.ensures.value)
    ∙ sym (changed_is new.place.file (settled_tree new) trees c.index_mut.result.now)

pub returns-clause-restores : goal.returns-clause-restores
returns-clause-restores c = λ first p.
    let new = c.args.new in
    let file = new.place.file in
    let path = new.place.path.steps in
    let trees = c.args.trees.now.items in
    let more = c.args.saved.now.items in
    let d = c.index_mut.result.now in
    let t = get_or trees file d in
    let old = c.put_in-old.result in
    let after = changed_tree file (settled_tree new) trees in
    let m = c.requires.takes d in
    let own = unmoved t new m in
    let gives : (source : List ℕ) (r : ListAt Span) → list_at (view source (moved_parsed (moved (new.from + new.was) new.was new.now) t)) path ≡ Some r → list_view source old ≡ r.list =
    λ source r is. c.put_in-old.ensures.gives source r (ap (λ u. list_at (view source (moved_parsed (moved (new.from + new.was) new.was new.now) u)) path) c.index_mut.ensures.value ∙ is) in
    let list = kept t own m.takes old gives in
    let item : rust.List → saved.the_data = λ l. saved.List (record { place = new.place; list = l; from = new.from; was = new.was; now = new.now }) in
    let are : c.push_reserved.new.self.items ≡ more ++ item list ∷ [] =
    c.push_reserved.ensures.items ∙ ap (λ l. l ++ item c.with_span-list.result ∷ []) (c.follow_last-is_saved.ensures.no c.if-is_saved.false ∙ c.in_ok-reserve.ensures.items) ∙ ap (λ l. more ++ item l ∷ []) c.with_span-list.ensures in
    let may : MayPut (item list) after = λ within e.
    let n = c.requires.takes e in
    let u = get_or trees file e in
    subst (MayShift new.from new.now new.was) (sym (changed_there file (settled_tree new) trees e c.requires.there ∙ settled_is u new n)) (may_go_back u (unmoved u new n) n.takes) in
    let back = changed_back file (settled_tree new) (list_exchanged path new.from new.now new.was list) trees
    (λ e within. subst (λ u. list_exchanged path new.from new.now new.was list (settled_tree new u) ≡ u) (same_read trees file d e within)
    (ap (list_exchanged path new.from new.now new.was list) (settled_is t new m) ∙ goes_back t own m.takes old gives)) in
    subst (λ l. PutsBack l (slice_set trees file c.put_in-old.new.tree) first) (sym are)
    (subst (λ ts. PutsBack (more ++ item list ∷ []) ts first) (sym (returns-clause-done c)) (puts_back_more more (item list) trees after first may back p))

pub push_reserved-requires : goal.push_reserved-requires
push_reserved-requires c = omega (arith, c.in_ok-reserve.ensures.ok, c.follow_last-is_saved.ensures.room, ap length (c.follow_last-is_saved.ensures.no c.if-is_saved.false))

pub returns-then-is_saved-clause-done : goal.returns-then-is_saved-clause-done
returns-then-is_saved-clause-done c =
    let new = c.args.new in
    let trees = c.args.trees.now.items in
    ap (slice_set trees new.place.file) (c.put_in-old.ensures.is ∙ ap (settled_tree new) c.index_mut.ensures.value)
    ∙ sym (changed_is new.place.file (settled_tree new) trees c.index_mut.result.now)

pub returns-then-is_saved-clause-restores : goal.returns-then-is_saved-clause-restores
returns-then-is_saved-clause-restores c = λ first p.
    let new = c.args.new in
    let file = new.place.file in
    let path = new.place.path.steps in
    let trees = c.args.trees.now.items in
    let after = changed_tree file (settled_tree new) trees in
    let f = c.follow_last-is_saved.ensures.yes c.if-is_saved.true in
    let was : PutsBack (f.more ++ f.last ∷ []) trees first = subst (λ l. PutsBack l trees first) (sym c.in_ok-reserve.ensures.items ∙ f.old) p in
    let back = followed_back trees new f.last f.other f.is c.requires.there c.requires.takes (may_pop f.more f.last trees was.may).0 in
    subst (λ l. PutsBack l (slice_set trees file c.put_in-old.new.tree) first) (sym f.new_last)
    (subst (λ ts. PutsBack (f.more ++ f.other ∷ []) ts first) (sym (returns-then-is_saved-clause-done c))
    (puts_back_other f.more f.last f.other trees after first back.0 back.1 was))
