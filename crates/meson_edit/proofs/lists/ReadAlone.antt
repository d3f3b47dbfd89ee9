-- The text that an edit of a list writes reads as a list by itself.
use Rattle.meson_edit.proofs.Words.{ap, sym, subst, arith, LevelFile, LevelListing, file_depth, listing_depth, Nowhere, erase, list-fits, WrittenListsRead}
use Rattle.meson_edit.proofs.paths.PutThere.{lists-stay}
use Rattle.meson_edit.proofs.paths.Shallow.{lists-are-shallow}

pub written-lists-read : WrittenListsRead
written-lists-read bytes text f path p t w level depth fits =
    let now = w.q.back w.list in
    let s = lists-stay (erase f) path w.q w.is_q w.list in
    let low = (list-fits Nowhere now path s.there s.is_there).level (subst LevelFile (sym w.is_tree) level) in
    let same = ap listing_depth s.list in
    let shallow = lists-are-shallow now path s.there s.is_there in
    let whole = ap file_depth w.is_tree in
    record {
      utf8 = w.utf8;
      text = w.is_text;
      level = subst (LevelListing w.list) s.bracket (subst (λ l. LevelListing l s.there.bracket) s.list low);
      depth = omega (arith, same, shallow, whole, fits);
    }
