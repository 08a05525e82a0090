use Rattle.std.proofs.Common.{refl}
use Rattle.record_text.proofs.refused_line.refusal_name.Goals as goal

pub returns-in-ScriptTooLong : goal.returns-in-ScriptTooLong
returns-in-ScriptTooLong c = rw c.in-ScriptTooLong.is refl

pub returns-in-LineTooLong : goal.returns-in-LineTooLong
returns-in-LineTooLong c = rw c.in-LineTooLong.is refl

pub returns-in-BadByte : goal.returns-in-BadByte
returns-in-BadByte c = rw c.in-BadByte.is refl

pub returns-in-UnknownWord : goal.returns-in-UnknownWord
returns-in-UnknownWord c = rw c.in-UnknownWord.is refl

pub returns-in-Arity : goal.returns-in-Arity
returns-in-Arity c = rw c.in-Arity.is refl

pub returns-in-BadName : goal.returns-in-BadName
returns-in-BadName c = rw c.in-BadName.is refl

pub returns-in-BadNumber : goal.returns-in-BadNumber
returns-in-BadNumber c = rw c.in-BadNumber.is refl

pub returns-in-BadAddress : goal.returns-in-BadAddress
returns-in-BadAddress c = rw c.in-BadAddress.is refl

pub returns-in-BadPrefix : goal.returns-in-BadPrefix
returns-in-BadPrefix c = rw c.in-BadPrefix.is refl

pub returns-in-BadPlace : goal.returns-in-BadPlace
returns-in-BadPlace c = rw c.in-BadPlace.is refl

pub returns-in-BadChannel : goal.returns-in-BadChannel
returns-in-BadChannel c = rw c.in-BadChannel.is refl

pub returns-in-BadHex : goal.returns-in-BadHex
returns-in-BadHex c = rw c.in-BadHex.is refl

pub returns-in-BadLength : goal.returns-in-BadLength
returns-in-BadLength c = rw c.in-BadLength.is refl

pub returns-in-Late : goal.returns-in-Late
returns-in-Late c = rw c.in-Late.is refl

pub returns-in-DuplicateName : goal.returns-in-DuplicateName
returns-in-DuplicateName c = rw c.in-DuplicateName.is refl

pub returns-in-UnknownName : goal.returns-in-UnknownName
returns-in-UnknownName c = rw c.in-UnknownName.is refl

pub returns-in-SelfLink : goal.returns-in-SelfLink
returns-in-SelfLink c = rw c.in-SelfLink.is refl

pub returns-in-PortTaken : goal.returns-in-PortTaken
returns-in-PortTaken c = rw c.in-PortTaken.is refl

pub returns-in-NoLink : goal.returns-in-NoLink
returns-in-NoLink c = rw c.in-NoLink.is refl

pub returns-in-Duplicate : goal.returns-in-Duplicate
returns-in-Duplicate c = rw c.in-Duplicate.is refl

pub returns-in-TableFull : goal.returns-in-TableFull
returns-in-TableFull c = rw c.in-TableFull.is refl

pub returns-in-NoPrefix : goal.returns-in-NoPrefix
returns-in-NoPrefix c = rw c.in-NoPrefix.is refl

pub returns-in-TooMany : goal.returns-in-TooMany
returns-in-TooMany c = rw c.in-TooMany.is refl
