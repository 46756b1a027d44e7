use Rattle.fhir_conformance.proofs.judging.judge.Goals as goal

pub returns-in-RootType-clause-carried : goal.returns-in-RootType-clause-carried
returns-in-RootType-clause-carried c = c.of.ensures.carried _

pub returns-in-TooFew-clause-carried : goal.returns-in-TooFew-clause-carried
returns-in-TooFew-clause-carried c = c.of-in-TooFew.ensures.carried _

pub returns-in-TooMany-clause-carried : goal.returns-in-TooMany-clause-carried
returns-in-TooMany-clause-carried c = c.of-in-TooMany.ensures.carried _

pub returns-in-TooFewIn-clause-carried : goal.returns-in-TooFewIn-clause-carried
returns-in-TooFewIn-clause-carried c = c.of-in-TooFewIn.ensures.carried _

pub returns-in-TooManyIn-clause-carried : goal.returns-in-TooManyIn-clause-carried
returns-in-TooManyIn-clause-carried c = c.of-in-TooManyIn.ensures.carried _

pub returns-in-Apart-clause-carried : goal.returns-in-Apart-clause-carried
returns-in-Apart-clause-carried c = c.of-in-Apart.ensures.carried _

pub returns-in-InASlice-clause-carried : goal.returns-in-InASlice-clause-carried
returns-in-InASlice-clause-carried c = c.of-in-InASlice.ensures.carried _

pub returns-in-RootType-clause-vouched : goal.returns-in-RootType-clause-vouched
returns-in-RootType-clause-vouched c = c.of.ensures.vouched _

pub returns-in-TooFew-clause-vouched : goal.returns-in-TooFew-clause-vouched
returns-in-TooFew-clause-vouched c = c.of-in-TooFew.ensures.vouched _

pub returns-in-TooMany-clause-vouched : goal.returns-in-TooMany-clause-vouched
returns-in-TooMany-clause-vouched c = c.of-in-TooMany.ensures.vouched _

pub returns-in-TooFewIn-clause-vouched : goal.returns-in-TooFewIn-clause-vouched
returns-in-TooFewIn-clause-vouched c = c.of-in-TooFewIn.ensures.vouched _

pub returns-in-TooManyIn-clause-vouched : goal.returns-in-TooManyIn-clause-vouched
returns-in-TooManyIn-clause-vouched c = c.of-in-TooManyIn.ensures.vouched _

pub returns-in-Apart-clause-vouched : goal.returns-in-Apart-clause-vouched
returns-in-Apart-clause-vouched c = c.of-in-Apart.ensures.vouched _

pub returns-in-InASlice-clause-vouched : goal.returns-in-InASlice-clause-vouched
returns-in-InASlice-clause-vouched c = c.of-in-InASlice.ensures.vouched _

pub returns-in-InOrder-clause-carried : goal.returns-in-InOrder-clause-carried
returns-in-InOrder-clause-carried c = c.of-in-InOrder.ensures.carried _

pub returns-in-InTheRest-clause-carried : goal.returns-in-InTheRest-clause-carried
returns-in-InTheRest-clause-carried c = c.of-in-InTheRest.ensures.carried _

pub returns-in-InOrder-clause-vouched : goal.returns-in-InOrder-clause-vouched
returns-in-InOrder-clause-vouched c = c.of-in-InOrder.ensures.vouched _

pub returns-in-InTheRest-clause-vouched : goal.returns-in-InTheRest-clause-vouched
returns-in-InTheRest-clause-vouched c = c.of-in-InTheRest.ensures.vouched _
