-- What a book answers, as the definitions of an answer's meaning have it.

use Rattle.branch_desk.specs.port_model.DeskAnswers as meaning
use Rattle.controller_requests.specs.declared.answer.Answer.{Answer}
use Rattle.controller_requests.specs.declared.answer.Answer.TheVariants.{Unknown, Done, Ports, Failed}

-- a failure tells the number of its request
abbrev pub told : meaning.Answered → Answer
told meaning.Unknown = Unknown
told (meaning.Done s) = Done s
told (meaning.Ports s rows) = Ports rows s
told (meaning.Failed s code) = Failed s.number code
