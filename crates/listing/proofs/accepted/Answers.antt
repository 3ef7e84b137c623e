use borrow.Author.Rules.{rules}
use Rattle.listing.proofs.Fitting.{page_part, paging}
use Rattle.listing.proofs.accepted.Goals as goal

pub slice_bounds-put_listing-end : goal.slice_bounds-put_listing-end
slice_bounds-put_listing-end c = search paging

pub put_listing-end-requires : goal.put_listing-end-requires
put_listing-end-requires c = search paging

pub refusal-requires : goal.refusal-requires
refusal-requires c = search paging

pub returns-then-out-end : goal.returns-then-out-end
returns-then-out-end c = search paging

pub slice_bounds-page-end : goal.slice_bounds-page-end
slice_bounds-page-end c = search paging

pub slice_bounds-put-end : goal.slice_bounds-put-end
slice_bounds-put-end c = page_part _ _ _ _ (search rules) (search rules) c.put_listing-end.ensures

pub put-requires : goal.put-requires
put-requires c = search paging

pub done-requires : goal.done-requires
done-requires c = search paging

pub shape_of-out : goal.shape_of-out
shape_of-out c = search paging

pub returns : goal.returns
returns c = search paging
