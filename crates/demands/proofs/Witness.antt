-- Document 01's whole set meets every condition that the demands ask of a set, a quota and names, and its order sheet every one
-- that they ask of a sheet: so nothing there is said of nothing. What is claimed is computed. Assumes nothing.
use Rattle.std.specs.Prelude.{Ok, Err}
use mathlib.Core.Path.{◌≡◌, refl, ap, ◌∙◌}
use mathlib.Core.List.{List, [], ◌∷◌, ◌++◌}
use Prim.Native.Nat.{ℕ, ◌≤◌}
use native.Mathlib.Omega.{arith}
use lib.ListN.{length}
use Rattle.base.specs.Answer.{fault, verdict, or_else}
use Rattle.base.specs.Digits.{is_digit, all_digits, value, digits}
use Rattle.base.specs.If.{if_b}
use Rattle.base.specs.Part.{part, put_at, same, all_are}
use Rattle.base.specs.Sum.{sum, cut_by}
use Rattle.charset.specs.Class.{is_a, class_of, all_a}
use Rattle.charset.specs.Date.{is_century, is_year_day, is_date}
use Rattle.charset.specs.Number.{number_in}
use Rattle.image.specs.Framing.{head, framed_from, items, framing}
use Rattle.image.specs.Item.{block, mark, reel_end, word, led_by, shape, item_of, behind, decode_f, decode, three, bytes_of, encode_by, encode}
use Rattle.order.specs.Due.{up_to_nine, dues, choose, due_after}
use Rattle.order.specs.Kind.{is_kind}
use Rattle.label.specs.Field.{volume_of, set_of, section_of, sequence_of, count_of, format_of, block_length_of, record_length_of, offset_of, least_record, suits, suits_both, is_length, is_record_length, is_positive, is_format, has_record_length, good}
use Rattle.label.specs.Judged.{first_bad, good_at, agree_at, access_of, access_at, field_fault, label_fault}
use Rattle.label.specs.Made.{fitted, laid as filled, made_volume, made_first, made_second}
use Rattle.label.specs.Name.{required, family, numbered, optional, or_else as or_named, named as named_by, kind_of}
use Rattle.label.specs.Table.{fields_of}
use Rattle.output.specs.Text.{bytes}
use Rattle.block.specs.Cut.{onto, cut_one, cut_f, cut, some_units, units}
use Rattle.block.specs.Turn.{outcome, is_turn, open_after, turns_from, turned, block_outcome}
use Rattle.block.specs.Unit.{fixed, measured, variable, segment, unit_of, length_of, word_of}
use Rattle.volume.specs.Fault.{says, value_of, lower, crossed, is_among, volume_fault, new_file_place, later_place, file_fault, hdr1_fault, hdr2_fault, trailer1_fault, open_fault, file_end_fault, trailer2_fault, outcome_in, block_fault, context_fault, item_fault}
use Rattle.volume.specs.Meaning.{File, on_first, joined, fields_from, collect, set_from, meaning_of, handed_out, content}
use Rattle.volume.specs.Run.{further, next, runs, answer_of, image_verdict}
use Rattle.volume.specs.State.{start}
use Rattle.volume.specs.Step.{is_due, kind_in, bytes_in, volumes_after, files_after, continues_after, hdr1_after, hdr2_after, count_after, pending_after, state_after, segments_of, segments_in, events_of, judged, ordered, step}
use Rattle.volume.specs.Accepted.{Accepted}
use Rattle.volume.proofs.Accepted.{done_accepted}
use Rattle.sheet.specs.Flat.{Flat, in_parts_f, in_parts, files_from, adds_up, sheet_of, sheet_number, reels_number}
use Rattle.reading.specs.Legal.{format_from, block_length_from, record_length_from, is_sound, legal_entry, legal_record, legal_records, legal_file, legal_files, legal_meaning, legal_name, fresh_names, legal_names, legal_quota, legal_sheet}
use Rattle.writing.specs.Lay.{reels_of, laid, put, rest, lay_files, lay_on, lay}
use Rattle.sections.specs.Section.{headers, file_end, volume_end}
use Rattle.writing.specs.Pack.{control_word, start_of, unit_in, fill, after, weights, weight, blocks_f, blocks_left, blocks_of}
use Rattle.block.specs.Room.{enters, taken, indicator_of}
use Rattle.writing.specs.Rewrite.{sheet_from}
use Rattle.content.specs.Part.{place_behind, begins_file, led_to, continues_behind, first_behind, part_in, onto as onto_parts, parts_by, parts_from, is_wanted, first_in}
use Rattle.content.specs.Section.{as_block, block_in, data_from}
use Rattle.content.specs.Walk.{before, rest_by, rest_f, rest_at, split_by, join_by, join_at, whole, left_of, is_inside, taken as unit_taken, unit_here, opened, block_next, unit_in as next_unit_in, unit_next, or_next, unit_from, begun_by as begun_record, record_at, step_by, step_at}
use Rattle.content.specs.Found.{passed, found_by, found_in, found_from, found_at, left_in, left_from, left_at}
use Rattle.content.specs.declared.Found.TheVariants.{InImage, Joined}
use Rattle.content.specs.File.{mark_from, as_file, file_in, file_from, first_file, from_file, files_on, file_numbered, begun_by, begun_at}
use Rattle.content.specs.Numbers.{beginning_of}
use Rattle.listing.proofs.Examples.{ledger}
use Rattle.demands.specs.Terms.{Fits}
use Rattle.demands.proofs.NewYear.{first, reel, image_of}

-- the set: reel GATE01, set SET001, file LEDGER, one record
abbrev pub set : List ℕ
set = ledger "000001"

abbrev pub names : List ℕ
names = bytes "GATE01"

-- its order sheet
unfoldable pub document01 : Flat
document01 =
    record {
      set = bytes "SET001";
      files = bytes "LEDGER           000100 85335 00000F0002000010";
      counts = 1 ∷ [];
      lengths = 10 ∷ [];
      bytes = bytes "0123456789";
      quota = 1;
      names = names;
    }

-- what it holds
unfoldable pub ledger_file : File
ledger_file = record { fields = bytes "LEDGER           000100 85335 00000F0002000010"; records = bytes "0123456789" ∷ [] }

pub computed : (image_verdict set ≡ verdict 0 0 0)
    × (reels_number 1 names ≡ 0)
    × (lay (sheet_from set 1 names) ≡ laid (items set))
    × (head ++ encode (items set) ≡ set)
    × (length set ≡ 448)
    -- two names more are not used
    × (lay (sheet_from set 1 (bytes "GATE01GATE02GATE03")) ≡ laid (items set))
    × (reels_number 1 (bytes "GATE01GATE02GATE03") ≡ 0)
    × ((content set).files ≡ ledger_file ∷ [])
    × (sheet_number document01 ≡ 0)
    × (lay (sheet_of document01) ≡ laid (items set))
unfolding ledger ledger_file if_b part same all_are is_digit all_digits value digits fault verdict or_else is_a class_of all_a is_century is_year_day is_date number_in framed_from items framing word led_by shape item_of behind decode_f decode three bytes_of encode_by encode up_to_nine dues choose due_after is_kind volume_of set_of section_of sequence_of count_of format_of block_length_of record_length_of offset_of least_record suits suits_both is_length is_record_length is_positive is_format has_record_length good first_bad good_at agree_at access_of access_at field_fault label_fault required family numbered optional or_named named_by kind_of fields_of bytes onto cut_one cut_f cut some_units units outcome is_turn open_after turns_from turned block_outcome fixed measured variable segment unit_of length_of says value_of lower crossed is_among volume_fault new_file_place later_place file_fault hdr1_fault hdr2_fault trailer1_fault open_fault file_end_fault trailer2_fault outcome_in block_fault context_fault item_fault on_first joined fields_from collect set_from meaning_of handed_out content further next runs answer_of image_verdict start is_due kind_in bytes_in volumes_after files_after continues_after hdr1_after hdr2_after count_after pending_after state_after segments_of segments_in events_of judged ordered step put_at fitted filled made_volume made_first made_second format_from block_length_from in_parts_f in_parts enters taken indicator_of control_word start_of unit_in fill after weights weight blocks_f blocks_left blocks_of put headers file_end volume_end rest lay_files lay_on reels_of lay sheet_from word_of is_sound legal_entry record_length_from legal_record legal_records legal_file legal_files legal_meaning legal_name fresh_names legal_names legal_quota legal_sheet files_from adds_up sheet_of sheet_number reels_number sum cut_by document01
computed = (refl, refl, refl, refl, refl, refl, refl, refl, refl, refl)

pub set_accepted : Accepted set
set_accepted = done_accepted set computed.0

pub set_files : (content set).files ≡ ledger_file ∷ []
set_files = computed.7

pub reels_legal : reels_number 1 names ≡ 0
reels_legal = computed.1

pub size : length (head ++ encode (items set)) ≡ 448
size = ap length computed.3 ∙ computed.4

pub set_long : length set ≡ 448
set_long = computed.4

-- it has room in any buffer of 448 bytes or more
abbrev pub set_fits : (room : ℕ) → 448 ≤ room → Fits (sheet_from set 1 names) room
set_fits room h = record { items = items set; laying = computed.2; limit = omega (arith, size); enough = omega (arith, size) }

-- with three names
pub three_legal : reels_number 1 (bytes "GATE01GATE02GATE03") ≡ 0
three_legal = computed.6

pub three_laid : lay (sheet_from set 1 (bytes "GATE01GATE02GATE03")) ≡ laid (items set)
three_laid = computed.5

pub sheet_legal : sheet_number document01 ≡ 0
sheet_legal = computed.8

pub sheet_fits : (room : ℕ) → 448 ≤ room → Fits (sheet_of document01) room
sheet_fits room h = record { items = items set; laying = computed.9; limit = omega (arith, size); enough = omega (arith, size) }

-- the same set with a miscounting trailer is refused, though its file can be found
pub miscounted : (image_verdict (ledger "000002") ≡ verdict 6 6 55) × (length (ledger "000002") ≡ 448)
    × ((beginning_of (begun_by (file_numbered (ledger "000002") 1))).verdict ≡ verdict 0 0 0)
unfolding ledger if_b part same all_are is_digit all_digits value digits fault verdict or_else is_a class_of all_a is_century is_year_day is_date number_in framed_from items framing word led_by shape item_of behind decode_f decode three bytes_of encode_by encode up_to_nine dues choose due_after is_kind volume_of set_of section_of sequence_of count_of format_of block_length_of record_length_of offset_of least_record suits suits_both is_length is_record_length is_positive is_format has_record_length good first_bad good_at agree_at access_of access_at field_fault label_fault required family numbered optional or_named named_by kind_of fields_of bytes onto cut_one cut_f cut some_units units outcome is_turn open_after turns_from turned block_outcome fixed measured variable segment unit_of length_of says value_of lower crossed is_among volume_fault new_file_place later_place file_fault hdr1_fault hdr2_fault trailer1_fault open_fault file_end_fault trailer2_fault outcome_in block_fault context_fault item_fault on_first joined fields_from collect set_from meaning_of handed_out content further next runs answer_of image_verdict start is_due kind_in bytes_in volumes_after files_after continues_after hdr1_after hdr2_after count_after pending_after state_after segments_of segments_in events_of judged ordered step put_at fitted filled made_volume made_first made_second format_from block_length_from in_parts_f in_parts enters taken indicator_of control_word start_of unit_in fill after weights weight blocks_f blocks_left blocks_of put headers file_end volume_end rest lay_files lay_on reels_of lay sheet_from word_of is_sound legal_entry record_length_from legal_record legal_records legal_file legal_files legal_meaning legal_name fresh_names legal_names legal_quota legal_sheet files_from adds_up sheet_of sheet_number reels_number sum cut_by place_behind mark_from begins_file led_to continues_behind first_behind part_in onto_parts parts_by parts_from is_wanted first_in as_file file_in file_from first_file from_file files_on file_numbered begun_by beginning_of
miscounted = (refl, refl, refl)

-- the record stands in one unit: a part of the image, whatever the joining buffer
pub record_found : ((room : ℕ) → found_at set 1 1 room ≡ Ok (InImage 260 10))
    × (record_at set (beginning_of (begun_at set 1)).walk
    ≡ whole 260 10 (record { format = 70; record_length = 10; offset = 0; at = 270; left = 0 }))
unfolding ledger if_b part same all_are is_digit all_digits value digits fault verdict or_else is_a class_of all_a is_century is_year_day is_date number_in framed_from items framing word led_by shape item_of behind decode_f decode three bytes_of encode_by encode up_to_nine dues choose due_after is_kind volume_of set_of section_of sequence_of count_of format_of block_length_of record_length_of offset_of least_record suits suits_both is_length is_record_length is_positive is_format has_record_length good first_bad good_at agree_at access_of access_at field_fault label_fault required family numbered optional or_named named_by kind_of fields_of bytes onto cut_one cut_f cut some_units units outcome is_turn open_after turns_from turned block_outcome fixed measured variable segment unit_of length_of says value_of lower crossed is_among volume_fault new_file_place later_place file_fault hdr1_fault hdr2_fault trailer1_fault open_fault file_end_fault trailer2_fault outcome_in block_fault context_fault item_fault on_first joined fields_from collect set_from meaning_of handed_out content further next runs answer_of image_verdict start is_due kind_in bytes_in volumes_after files_after continues_after hdr1_after hdr2_after count_after pending_after state_after segments_of segments_in events_of judged ordered step put_at fitted filled made_volume made_first made_second format_from block_length_from in_parts_f in_parts enters taken indicator_of control_word start_of unit_in fill after weights weight blocks_f blocks_left blocks_of put headers file_end volume_end rest lay_files lay_on reels_of lay sheet_from word_of is_sound legal_entry record_length_from legal_record legal_records legal_file legal_files legal_meaning legal_name fresh_names legal_names legal_quota legal_sheet files_from adds_up sheet_of sheet_number reels_number sum cut_by place_behind mark_from begins_file led_to continues_behind first_behind part_in onto_parts parts_by parts_from is_wanted first_in as_file file_in file_from first_file from_file files_on file_numbered begun_by beginning_of found_at found_from found_in passed step_at step_by record_at is_inside begun_record unit_from unit_here or_next unit_taken unit_next next_unit_in block_next opened left_of data_from block_in as_block found_by begun_at
record_found = ((λ room. refl), refl)

-- a set with a record of three bytes in two segments, one a block
unfoldable pub message : List ℕ
message =
    head
    ++ encode
    (block (bytes "VOL1GATE01                                                                     4")
    ∷ block (bytes "HDR1MESSAGE          SET00100010001000100 85335 00000 000000                    ")
    ∷ block (bytes "HDR2S0002000010                                   00                            ")
    ∷ mark
    ∷ block (bytes "10007AB")
    ∷ block (bytes "30006C")
    ∷ mark
    ∷ block (bytes "EOF1MESSAGE          SET00100010001000100 85335 00000 000002                    ")
    ∷ block (bytes "EOF2S0002000010                                   00                            ")
    ∷ mark
    ∷ mark
    ∷ reel_end
    ∷ [])

-- it is joined in a buffer of three bytes, and refused with 10 in one of two
pub record_joined : (image_verdict message ≡ verdict 0 0 0) × (found_at message 1 1 3 ≡ Ok (Joined 3))
    × (left_at message 1 1 (0 ∷ 0 ∷ 0 ∷ 0 ∷ []) ≡ bytes "ABC" ++ (0 ∷ []))
    × (found_at message 1 1 2 ≡ Err (verdict 10 0 0))
unfolding message if_b part same all_are is_digit all_digits value digits fault verdict or_else is_a class_of all_a is_century is_year_day is_date number_in framed_from items framing word led_by shape item_of behind decode_f decode three bytes_of encode_by encode up_to_nine dues choose due_after is_kind volume_of set_of section_of sequence_of count_of format_of block_length_of record_length_of offset_of least_record suits suits_both is_length is_record_length is_positive is_format has_record_length good first_bad good_at agree_at access_of access_at field_fault label_fault required family numbered optional or_named named_by kind_of fields_of bytes onto cut_one cut_f cut some_units units outcome is_turn open_after turns_from turned block_outcome fixed measured variable segment unit_of length_of says value_of lower crossed is_among volume_fault new_file_place later_place file_fault hdr1_fault hdr2_fault trailer1_fault open_fault file_end_fault trailer2_fault outcome_in block_fault context_fault item_fault on_first joined fields_from collect set_from meaning_of handed_out content further next runs answer_of image_verdict start is_due kind_in bytes_in volumes_after files_after continues_after hdr1_after hdr2_after count_after pending_after state_after segments_of segments_in events_of judged ordered step put_at fitted filled made_volume made_first made_second format_from block_length_from in_parts_f in_parts enters taken indicator_of control_word start_of unit_in fill after weights weight blocks_f blocks_left blocks_of put headers file_end volume_end rest lay_files lay_on reels_of lay sheet_from word_of is_sound legal_entry record_length_from legal_record legal_records legal_file legal_files legal_meaning legal_name fresh_names legal_names legal_quota legal_sheet files_from adds_up sheet_of sheet_number reels_number sum cut_by place_behind mark_from begins_file led_to continues_behind first_behind part_in onto_parts parts_by parts_from is_wanted first_in as_file file_in file_from first_file from_file files_on file_numbered begun_by beginning_of found_at found_from found_in passed step_at step_by record_at is_inside begun_record unit_from unit_here or_next unit_taken unit_next next_unit_in block_next opened left_of data_from block_in as_block found_by begun_at split_by rest_at rest_f rest_by before left_at left_from left_in join_at join_by
record_joined = (refl, refl, refl, refl)

-- a set that lost its last reel, and a sheet of nothing
unfoldable pub lost_reel : List ℕ
lost_reel = image_of (reel "1" " 85365 86365" "EOV" " 85365 86365")

pub lost : (image_verdict lost_reel ≡ verdict 3 11 0) × (length (items lost_reel) ≡ 11)
unfolding first reel image_of lost_reel if_b part same all_are is_digit all_digits value digits fault verdict or_else is_a class_of all_a is_century is_year_day is_date number_in framed_from items framing word led_by shape item_of behind decode_f decode three bytes_of encode_by encode up_to_nine dues choose due_after is_kind volume_of set_of section_of sequence_of count_of format_of block_length_of record_length_of offset_of least_record suits suits_both is_length is_record_length is_positive is_format has_record_length good first_bad good_at agree_at access_of access_at field_fault label_fault required family numbered optional or_named named_by kind_of fields_of bytes onto cut_one cut_f cut some_units units outcome is_turn open_after turns_from turned block_outcome fixed measured variable segment unit_of length_of says value_of lower crossed is_among volume_fault new_file_place later_place file_fault hdr1_fault hdr2_fault trailer1_fault open_fault file_end_fault trailer2_fault outcome_in block_fault context_fault item_fault on_first joined fields_from collect set_from meaning_of handed_out content further next runs answer_of image_verdict start is_due kind_in bytes_in volumes_after files_after continues_after hdr1_after hdr2_after count_after pending_after state_after segments_of segments_in events_of judged ordered step put_at fitted filled made_volume made_first made_second format_from block_length_from in_parts_f in_parts enters taken indicator_of control_word start_of unit_in fill after weights weight blocks_f blocks_left blocks_of put headers file_end volume_end rest lay_files lay_on reels_of lay sheet_from word_of is_sound legal_entry record_length_from legal_record legal_records legal_file legal_files legal_meaning legal_name fresh_names legal_names legal_quota legal_sheet files_from adds_up sheet_of sheet_number reels_number sum cut_by
lost = (refl, refl)

unfoldable pub no_sheet : Flat
no_sheet = record { set = []; files = []; counts = []; lengths = []; bytes = []; quota = 0; names = [] }

pub no_sheet_legal : sheet_number no_sheet ≡ 11
unfolding no_sheet sheet_number adds_up sum sheet_of files_from in_parts in_parts_f legal_sheet legal_quota if_b
no_sheet_legal = refl
