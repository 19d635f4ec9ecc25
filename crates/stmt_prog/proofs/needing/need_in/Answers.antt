use Rattle.stmt_prog.proofs.CourseLemmas.{is_course}
use Rattle.stmt_prog.proofs.needing.need_in.Goals as goal

pub returns-in-ScanZero-clause-course : goal.returns-in-ScanZero-clause-course
returns-in-ScanZero-clause-course c = is_course c.args.head.now c.at.ensures.tables c.at.ensures.sound c.args.state.now c.requires

pub returns-in-AskTable-clause-course : goal.returns-in-AskTable-clause-course
returns-in-AskTable-clause-course c = is_course c.args.head.now c.at.ensures.tables c.at.ensures.sound c.args.state.now c.requires

pub returns-in-ScanOwn-clause-course : goal.returns-in-ScanOwn-clause-course
returns-in-ScanOwn-clause-course c = is_course c.args.head.now c.at.ensures.tables c.at.ensures.sound c.args.state.now c.requires

pub returns-in-Planning-clause-course : goal.returns-in-Planning-clause-course
returns-in-Planning-clause-course c = is_course c.args.head.now c.at.ensures.tables c.at.ensures.sound c.args.state.now c.requires

pub returns-in-Writing-clause-course : goal.returns-in-Writing-clause-course
returns-in-Writing-clause-course c = is_course c.args.head.now c.at.ensures.tables c.at.ensures.sound c.args.state.now c.requires

pub returns-in-Defining-clause-course : goal.returns-in-Defining-clause-course
returns-in-Defining-clause-course c = is_course c.args.head.now c.at.ensures.tables c.at.ensures.sound c.args.state.now c.requires
