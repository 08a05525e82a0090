-- the laws are proved over definitions alone

use Rattle.law_frame_readings.proofs.Packets.{is_forwarded, is_heard}
use Rattle.law_frame_readings.proofs.Reading.{read_default, read_told, read_said, read_label, read_ifmp, read_gsmp, read_copy, no_ifmp, no_gsmp, no_copy}
use Rattle.law_frame_readings.proofs.frames_are_read.Goals as goal

pub returns : goal.returns
returns c = record {
  frames = record { default = read_default; forwarded = is_forwarded; heard = is_heard; told = read_told; said = read_said; labelled = read_label };
  marks = record { ifmp = read_ifmp; gsmp = read_gsmp; copy = read_copy; no_ifmp = no_ifmp; no_gsmp = no_gsmp; no_copy = no_copy };
}
