-- Items that can stand in an image: what the laws on its bytes ask.
use Rattle.std.specs.Prelude.{Bool, true, false, ◌&&◌, List, [], ◌∷◌, leb, length}
use Rattle.base.specs.If.{if_b}
use Rattle.image.specs.Item.{mark, most_bytes, Item, reel_end, broken, block}

-- an item that can stand in an image
unfoldable pub is_item : Item → Bool
is_item (block bs) = leb 1 (length bs) && leb (length bs) most_bytes
is_item mark = true
is_item reel_end = true
is_item broken = false

unfoldable pub all_items : List Item → Bool
all_items [] = true
all_items (x ∷ xs) = if_b (is_item x) (all_items xs) false
