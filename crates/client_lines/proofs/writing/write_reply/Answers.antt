use Rattle.client_lines.proofs.writing.write_reply.Goals as goal

pub returns-in-Directory : goal.returns-in-Directory
returns-in-Directory g c = rw c.in-Directory.is c.put_line-in-Directory.ensures
