-- The call that an id names leaves room for an array among its arguments.
use Rattle.meson_keywords.proofs.Words.{◌≡◌, ℕ, ◌+◌, ◌≤◌, List, [], ◌∷◌, map, Ok, refl, ap, ◌∙◌, arith, File, Span, file_depth, listing_depth, Nowhere, Listing}
use Rattle.meson_keywords.proofs.Words.{listing, erase, view, Parsed, CallThere, Call, Loaded, IsProject, named_trees, project, views, Placed, Role}
use Rattle.meson_keywords.proofs.Words.{calls_stand, plain_trees, tree_is, parsed_shallow, plain_place, all_nth, CallStands, trees_of}
use Rattle.meson_edit.proofs.paths.DeepLists.{depths-grow}
use Rattle.meson_calls.specs.Finding.{the_call}
use Rattle.meson_calls.specs.declared.call.CallName.{CallName}

-- the trees of a project without spans
erased_trees : (files : List File) (parsed : List Parsed) → trees_of (named_trees files (views files parsed)) ≡ map erase (views files parsed)
erased_trees [] parsed = refl
erased_trees (f ∷ files) [] = refl
erased_trees (f ∷ files) (t ∷ parsed) = ap (λ ts. erase (view f.bytes t) ∷ ts) (erased_trees files parsed)

pub trees_are : (old : Loaded) → trees_of (project old) ≡ plain_trees old
trees_are old = erased_trees old.files old.parsed

some_depth : (l : Listing Nowhere) → 1 ≤ listing_depth l
some_depth (listing s trailing list) = omega arith

-- a call may be one deeper than it is, since a file of a project is less deep than one between two steps
pub stands_there : (old : Loaded) → IsProject old → (c : Placed (Call Span)) → CallThere (project old) c → CallStands c.place (plain_trees old)
stands_there old is c t =
    let path = c.place.path.steps in
    let tree = erase t.there.file.tree in
    let there = tree_is old c.place t.there in
    let q = plain_place t.there.file.tree path t.there.list t.there.is_list in
    let shallow : file_depth tree ≤ 64 = all_nth (λ u. file_depth u ≤ 64) (plain_trees old) c.place.file tree (parsed_shallow old.files old.parsed is.parsed) there in
    record {
      tree = tree;
      is_tree = there;
      place = q.place;
      is_place = q.is_place;
      is_round = q.bracket ∙ t.is_round;
      limit = listing_depth q.place.list + 1;
      array_fits = omega (arith, some_depth q.place.list);
      call_fits = omega arith;
      file_fits = λ l within. omega (arith, shallow, depths-grow tree path q.place q.is_place l 1 within);
    }

pub call_has_room : (old : Loaded) → IsProject old → (r : Role) (id : CallName) (c : Placed (Call Span)) → the_call (project old) r id ≡ Ok c → CallStands c.place (plain_trees old)
call_has_room old is r id c found = stands_there old is c (calls_stand (project old) r id c found)
