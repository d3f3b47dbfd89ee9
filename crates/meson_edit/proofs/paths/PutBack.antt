-- An exchange of a list is undone by the exchange back.
use Rattle.meson_edit.proofs.Words.{◌≡◌, ℕ, ◌+◌, List, ◌++◌, length, Some, refl, sym, ap, subst, ◌∙◌, length-append, arith, Span, listing_depth, span_by, moved}
use Rattle.meson_edit.proofs.Words.{ListAt, list_at, list_span, ReadsWithin, IsSpannedWithin, IsSpannedListWithin, Nowhere, Listing, File, erase, erase_listing}
use Rattle.meson_edit.proofs.Words.{one-spanned-within, one-spanned-list, list-fits, each_file, each_listing}
use Rattle.meson_edit.proofs.kept.Each.{in-both, in-other, lists-map}
use Rattle.meson_edit.proofs.kept.EachNothing.{listing-nothing, lists-without, lists-put-erase}
use Rattle.meson_edit.proofs.kept.Kept.{moved-place, lists-kept}
use Rattle.meson_edit.proofs.kept.ListsAlone.{lists-alone}
use Rattle.meson_edit.specs.PutBack.{ListsPutBack}
use Rattle.meson_edit.proofs.paths.PutThere.{lists-there}

-- Without spans: the tree with the old list in the place of the other one is the old tree.
put-back-bare : (f : File Span) (path : List ℕ) (p : ListAt Span) → list_at f path ≡ Some p → (g k : Span → Span) (r : ListAt Span)
    → list_at (each_file g f) path ≡ Some r
    → (l : Listing Span) (u : ListAt Span) → list_at (each_file k (r.back l)) path ≡ Some u → erase (u.back p.list) ≡ erase f
put-back-bare f path p is g k r is-r l u is-u =
    let o = in-other (list_at f path) (list_at (erase f) path) (lists-without f path) p is in
    let q = o.0 in
    let bare = lists-put-erase g f path r is-r q o.1 l in
    let w = lists-there Nowhere (erase f) path q o.1 (erase_listing l) in
    let is-there = subst (λ t. list_at t path ≡ Some w.there) (sym bare) w.is_there in
    let fits = list-fits Nowhere (erase f) path q o.1 in
    lists-put-erase k (r.back l) path u is-u w.there is-there p.list ∙ w.back (erase_listing p.list)
    ∙ ap q.back (sym (o.2.list ∙ listing-nothing p.list)) ∙ fits.same

pub lists-put-back : ListsPutBack
lists-put-back limits bytes f s path p is front was now back parts from to depth l t r is-r new other m again u is-u =
    let k = span_by (λ n. n + length front) in
    let g = span_by (moved (length (front ++ was)) (length was) (length now)) in
    let h = span_by (moved (length (front ++ now)) (length now) (length was)) in
    let maps = in-both (list_at f path) (list_at (each_file g f) path) (lists-map g f path) p r is is-r in
    let w = lists-there Span (each_file g f) path r is-r (each_listing k l) in
    let place = ap list_span w.list ∙ moved-place p.bracket depth now l t (length front) in
    let n0 = length-append front now in
    let starts : length front ≡ (list_span w.there.list).from = sym (ap (λ (s : Span). s.from) place) in
    let ends : length (front ++ now) ≡ (list_span w.there.list).to = omega (arith, ap (λ (s : Span). s.to) place) in
    let alone = lists-alone limits bytes f s path p is front was back parts from to (listing_depth p.list) (omega arith) in
    let same : each_listing k m ≡ p.list = ap (each_listing k) (one-spanned-list p.bracket was other (listing_depth p.list) m alone.0 again alone.1)
    ∙ alone.2 in
    let bare : erase (u.back (each_listing k m)) ≡ erase f = ap (λ x. erase (u.back x)) same ∙ put-back-bare f path p is g h r is-r (each_listing k l) u is-u in
    let old = subst (λ b. IsSpannedWithin limits b f) parts s in
    let reads = subst (ReadsWithin limits (front ++ (was ++ back))) (sym bare) old.reads in
    let read_again = subst (λ b. IsSpannedListWithin other b was m) (sym (w.bracket ∙ maps.bracket)) again in
    let now_old = lists-kept limits (front ++ (now ++ back))
    (r.back (each_listing k l)) new path w.there w.is_there front now was back refl starts ends other m read_again u is-u reads in
    one-spanned-within limits limits (front ++ (was ++ back)) (u.back (each_listing k m)) f now_old old
