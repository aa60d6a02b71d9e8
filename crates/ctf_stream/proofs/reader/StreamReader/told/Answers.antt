use Rattle.ctf_stream.proofs.reader.StreamReader.told.Goals as goal

pub returns-in-Item-clause-tells : goal.returns-in-Item-clause-tells
returns-in-Item-clause-tells g c =
    let t = rw (c.as_str.ensures) at c.current_item.ensures.tells in
    rw (← c.self.view_is, c.in-Item.is) t
