use Rattle.order.proofs.Laws.{at_phase, at_two, at_end, due_reel, due_first_header, due_data, due_trailer, due_first_eof, due_first_eov, due_file_end, due_volume_end, due_set_closed, due_reel_closed, due_over}
use Rattle.order.proofs.due_after.Goals as goal

pub returns-in-Reel : goal.returns-in-Reel
returns-in-Reel c = search (at_phase, due_reel)

pub returns-in-Volume : goal.returns-in-Volume
returns-in-Volume c = search at_phase

pub returns-in-UserVolume : goal.returns-in-UserVolume
returns-in-UserVolume c = search at_phase

pub returns-in-FirstHeader : goal.returns-in-FirstHeader
returns-in-FirstHeader c = search (at_phase, due_first_header)

pub returns-in-Header : goal.returns-in-Header
returns-in-Header c = search at_phase

pub returns-in-UserHeader : goal.returns-in-UserHeader
returns-in-UserHeader c = search at_phase

pub returns-in-Data : goal.returns-in-Data
returns-in-Data c = search (at_two, due_data)

pub returns-in-Trailer : goal.returns-in-Trailer
returns-in-Trailer c = search (at_two, due_trailer)

pub returns-in-FirstEof : goal.returns-in-FirstEof
returns-in-FirstEof c = search (at_phase, due_first_eof)

pub returns-in-Eof : goal.returns-in-Eof
returns-in-Eof c = search at_phase

pub returns-in-EofUser : goal.returns-in-EofUser
returns-in-EofUser c = search at_phase

pub returns-in-FirstEov : goal.returns-in-FirstEov
returns-in-FirstEov c = search (at_phase, due_first_eov)

pub returns-in-Eov : goal.returns-in-Eov
returns-in-Eov c = search at_phase

pub returns-in-EovUser : goal.returns-in-EovUser
returns-in-EovUser c = search at_phase

pub returns-in-FileEnd : goal.returns-in-FileEnd
returns-in-FileEnd c = search (at_two, due_file_end)

pub returns-in-VolumeEnd : goal.returns-in-VolumeEnd
returns-in-VolumeEnd c = search (at_phase, due_volume_end)

pub returns-in-SetClosed : goal.returns-in-SetClosed
returns-in-SetClosed c = search (at_phase, due_set_closed)

pub returns-in-ReelClosed : goal.returns-in-ReelClosed
returns-in-ReelClosed c = search (at_phase, due_reel_closed)

pub returns-in-Over : goal.returns-in-Over
returns-in-Over c = search (at_phase, due_over)

pub returns-in-Accepted : goal.returns-in-Accepted
returns-in-Accepted c = search at_end
