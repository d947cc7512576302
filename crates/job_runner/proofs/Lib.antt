mod JobParts
