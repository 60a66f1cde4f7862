use Rattle.kms_serve.proofs.status.put_bad_key.Goals as goal

pub returns-in-SameAs-clause-text : goal.returns-in-SameAs-clause-text
returns-in-SameAs-clause-text c = rw c.in-SameAs.is c.put_same.ensures.text

pub returns-in-TooMany-clause-text : goal.returns-in-TooMany-clause-text
returns-in-TooMany-clause-text c = rw c.in-TooMany.is c.put-in-TooMany.ensures.text
